pub mod Tables
pub mod Names
pub mod Steps
pub mod Advancing
pub mod Entering
pub mod Notes
pub mod Spelling
