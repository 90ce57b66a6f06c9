pub mod Laws
pub mod Skims
pub mod Coded
pub mod Words
