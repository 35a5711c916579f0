pub mod Listed
pub mod Matches
pub mod SameBlocks
pub mod Stops
pub mod Inputs
pub mod Produced
pub mod Verdicts
