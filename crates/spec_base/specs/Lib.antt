pub mod Bytes
pub mod Reading
pub mod Faults
pub mod Sums
pub use Rattle.sha2.specs.Sha256
