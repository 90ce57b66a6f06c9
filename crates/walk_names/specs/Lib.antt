pub mod Naming
pub mod Script
pub mod Spells
pub mod Progress
