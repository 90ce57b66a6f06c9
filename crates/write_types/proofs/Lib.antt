pub mod SortLaws
pub mod CommentLaws
pub mod FunctionLaws
pub mod RecordLaws
pub mod MemberLaws
pub mod LineLaws
pub mod Scripts
pub mod TypeLaws
