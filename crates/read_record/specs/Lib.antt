pub mod Marks
pub mod Fields
pub mod Bodies
pub mod Records
