pub mod Arguments
pub mod Opened
pub mod Commands
pub mod Alone
