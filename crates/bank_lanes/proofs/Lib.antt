pub mod Rests
pub mod SeatSteps
pub mod Behind
pub mod Frees
pub mod GateSteps
pub mod GroupSteps
pub mod Filled
pub mod Lends
