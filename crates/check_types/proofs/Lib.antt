pub mod Letters
pub mod TermTypes
pub mod Numbers
pub mod Read
pub mod Same
pub mod Hashes
pub mod Probing
pub mod Search
