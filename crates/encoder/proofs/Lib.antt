pub mod InputLaws
pub mod AssertionLaws
pub mod EndLaws
pub mod CloseLaws
pub mod PrintLaws
