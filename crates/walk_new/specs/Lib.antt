pub mod Steps
pub mod News
