pub mod Keyed
pub mod Owned
pub mod Regions
pub mod Frames
pub mod Transactions
pub mod States
pub mod Afters
pub mod Produced
