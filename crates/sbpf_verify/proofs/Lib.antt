pub mod Refusals
pub mod Starts
pub mod ImageLaws
