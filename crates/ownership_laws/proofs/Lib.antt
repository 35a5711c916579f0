pub mod Overlays
pub mod Paths
pub mod BlockPaths
pub mod RestLaws
