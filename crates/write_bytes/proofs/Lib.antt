pub mod Laws
pub mod Rest
pub mod Loop
mod Put
mod Clearing
pub mod Cutting
