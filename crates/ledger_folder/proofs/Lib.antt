pub mod Slots
pub mod Moments
pub mod Stages
pub mod Showing
pub mod Twice
