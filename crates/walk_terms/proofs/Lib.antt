pub mod ChildrenLaws
pub mod Walking
