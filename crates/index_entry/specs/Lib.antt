pub mod Places
pub mod Types
pub mod Symbols
pub mod Terms
pub mod Children
