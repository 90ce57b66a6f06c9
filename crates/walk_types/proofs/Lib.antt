pub mod Declaring
pub mod Entering
pub mod Walking
pub mod Encoding
pub mod Datatypes
pub mod PartLaws
pub mod Settling
