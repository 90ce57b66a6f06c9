pub mod Value
pub mod Vector
