pub mod Repeats
pub mod Decided
pub mod Tests
pub mod Marks
pub mod Records
pub mod Enums
pub mod Terms
