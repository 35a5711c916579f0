pub use Rattle.spec_base.specs.Reading
pub use Rattle.format_fields.specs.Output
pub use Rattle.message_codec.specs.Wire
pub mod Record
pub mod RecordReading
pub mod Replays
pub mod Laws
