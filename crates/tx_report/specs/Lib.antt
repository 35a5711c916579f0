pub use Rattle.spec_base.specs.Bytes
pub mod Causes
pub mod Statuses
pub mod LogLines
pub mod Outcomes
