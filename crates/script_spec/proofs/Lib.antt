-- The theorems about the definitions, by subject.
-- laws of tests, lists, readers and records, and a name for each module's definitions
pub mod Laws
pub mod Lists
pub mod Pigeonhole
pub mod Readers
pub mod Tables
pub mod Fronts
pub mod Taken
pub mod Accepted
pub mod Equal
pub mod Classes
pub mod Listings
pub mod Computes
pub mod Cutting
-- reading a script: its commands, and texts that may stand inside one
pub mod Reading
pub mod Pieces
-- spelling: numerals, symbols, sorts, and bodies that mean full spellings
pub mod Numerals
pub mod Values
pub mod LastDigit
pub mod Symbols
pub mod Means
pub mod Sorts
pub mod Negated
pub mod Bodies
pub mod Terms
pub mod Declarations
-- unfolding: part by part, and in any order
pub mod Unfolding
pub mod Replacing
pub mod OneResult
-- the walk: what it logs, names and refuses, and what encode's answer depends on
pub mod Log
pub mod Grow
pub mod Agree
pub mod Invariant
pub mod High
pub mod Steps
pub mod Entered
pub mod EnteredTerms
pub mod TypeLog
pub mod NewLog
pub mod TermLog
pub mod Kept
pub mod Names
pub mod Logs
pub mod Bare
pub mod BareEntry
pub mod BareFile
pub mod Encoding
-- records in which a type is written: it is the term's, and without it the record is the same
pub mod OwnType
pub mod Written
pub mod Untyped
-- the walk over the inputs and the walk over them as listed
pub mod Tracks
pub mod TracksTerms
pub mod Relisted
-- demand 3: what it asks of a script, computed; the script of a log is faithful, and so is that of a file
pub mod Asked
pub mod Roles
pub mod Defined
pub mod Order
pub mod Says
pub mod Demand
-- literals read back to their texts
pub mod Utf8Range
pub mod ReadBack
