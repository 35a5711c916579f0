pub mod Behind
pub mod Gathers
pub mod Moves
pub mod Numbers
