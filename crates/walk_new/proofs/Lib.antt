pub mod Testing
pub mod Introducing
pub mod AttributeLaws
pub mod EntityLaws
pub mod OperatorLaws
pub mod ApplicationLaws
pub mod TermLaws
