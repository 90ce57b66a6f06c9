pub mod Found
pub mod Made
pub mod Negations
pub mod Searches
