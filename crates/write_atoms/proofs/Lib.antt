pub mod ValueLaws
pub mod Sound
pub mod Rows
pub mod Numbered
pub mod AtomLaws
pub mod MarkLaws
pub mod QueryLaws
