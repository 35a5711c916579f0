pub use Rattle.sol_base.specs.Limits
pub use Rattle.snapshot_codec.specs.Batch
pub use Rattle.snapshot_codec.specs.Snapshot
pub mod Generator
