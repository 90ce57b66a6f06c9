pub mod Written
pub mod Comments
