pub mod Matching
pub mod Equal
pub mod Reading
pub mod Stopping
pub mod Replays
