pub mod Promise
pub mod Beginning
pub mod Reading
pub mod Stepping
pub mod Clearing
