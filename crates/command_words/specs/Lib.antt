pub mod Shapes
pub mod Arguments
pub mod Values
pub mod Faults
pub mod Answers
