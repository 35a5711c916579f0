pub use Rattle.block_run.specs.Blocks
pub mod Listings
pub mod Sought
pub mod Traced
pub mod Noted
