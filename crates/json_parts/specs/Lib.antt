pub use Rattle.spec_base.specs.Bytes
pub use Rattle.spec_base.specs.Reading
pub mod Faults
pub mod Parts
pub mod Written
pub mod TransactionJson
pub mod Texts
