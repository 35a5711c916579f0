pub mod Entries
pub mod Left
pub mod Sums
pub mod Order
pub mod Once
pub mod Stretches
pub mod Owners
