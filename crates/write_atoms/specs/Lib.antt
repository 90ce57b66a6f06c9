pub mod Symbols
pub mod Parts
pub mod Records
pub mod Atoms
