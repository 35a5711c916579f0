pub use Rattle.block_record.specs.Record
pub use Rattle.block_record.specs.Replays
pub mod Verdict
