pub mod Drawing
pub mod Starting
pub mod Sizes
