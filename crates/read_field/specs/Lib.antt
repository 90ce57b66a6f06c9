pub mod Reads
pub mod Takes
pub mod Items
pub mod Words
