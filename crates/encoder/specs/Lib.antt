pub mod Inputs
pub mod Ending
pub mod Promise
pub mod Printing
