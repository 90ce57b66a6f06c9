pub mod Marked
pub mod Bodies
pub mod Values
pub mod Verdicts
pub mod Records
