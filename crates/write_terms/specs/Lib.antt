pub mod Arguments
pub mod Values
pub mod Applications
pub mod Lines
pub mod Definitions
