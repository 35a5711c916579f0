pub use Rattle.json_parts.specs.Faults
pub use Rattle.bank_json.specs.BatchJson
pub use Rattle.bank_json.specs.RecordJson
pub use Rattle.bank_json.specs.SnapshotJson
pub use Rattle.bank_json.specs.Texts
