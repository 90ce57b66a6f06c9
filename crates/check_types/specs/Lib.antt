pub mod Sought
pub mod Probed
