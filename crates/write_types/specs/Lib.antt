pub mod Sorts
pub mod Functions
pub mod Records
pub mod Members
pub mod Lines
