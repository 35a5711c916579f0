pub mod Halves
pub mod Lengths
pub mod Once
pub mod Merging
pub mod Counts
pub mod BuiltLaws
