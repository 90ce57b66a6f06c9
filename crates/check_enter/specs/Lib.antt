pub mod Entering
pub mod Enums
pub mod Terms
