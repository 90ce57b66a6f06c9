-- The examples, by subject.
-- the marked examples: files, scripts, outcomes
pub mod Records
pub mod Lines
pub mod Examples
-- scripts that are not faithful, and the right ones of the same files
pub mod Readings
pub mod Roles
pub mod Inversion
pub mod Wrong
pub mod Right
-- sets listed in any order
pub mod Listings
