pub use Rattle.spec_base.specs.Reading
pub use Rattle.message_codec.specs.Wire
pub mod Mentions
pub mod Classes
pub mod Tables
pub mod Signing
pub mod Built
pub mod Laws
