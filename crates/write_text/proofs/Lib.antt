pub mod Laws
pub mod Runs
pub mod CutLaws
pub mod CommentLaws
