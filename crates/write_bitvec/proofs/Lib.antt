pub mod Bytes
pub mod Division
mod Examples
pub mod Powers
pub mod Spellings
pub mod TwosComplement
pub mod Vectors
