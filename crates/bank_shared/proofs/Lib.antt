pub mod Sums
pub mod Owns
pub mod Moves
pub mod Turns
pub mod UnderTurn
pub mod Ended
