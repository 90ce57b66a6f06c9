pub mod Segment
pub mod Machine
pub mod Step
pub mod Printed
pub mod View
pub mod Shape
