pub mod Starts
pub mod Ends
pub mod Holders
pub mod Meets
pub mod Waits
pub mod Shape
pub mod Most
