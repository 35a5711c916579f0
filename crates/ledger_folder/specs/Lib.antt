pub mod Counts
pub mod Names
pub mod Files
pub mod Crash
pub mod Placing
