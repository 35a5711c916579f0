pub mod Steps
pub mod Wanted
