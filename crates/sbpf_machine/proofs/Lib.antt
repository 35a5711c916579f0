pub mod FramePointer
mod Holding
pub mod Keeping
pub mod Landing
mod Paths
pub mod Plain
pub mod Stepping
pub mod Taking
mod Waiting
