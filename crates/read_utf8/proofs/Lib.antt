pub mod Decode
pub mod Laws
pub mod Steps
