pub use Rattle.spec_base.specs.Bytes
pub use Rattle.spec_base.specs.Reading
pub use Rattle.json_parts.specs.Faults
pub mod SnapshotJson
pub mod BatchJson
pub mod RecordJson
pub mod ImageJson
pub use Rattle.json_parts.specs.Texts
