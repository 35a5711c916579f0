pub use Rattle.spec_base.specs.Reading
pub mod Fields
pub mod Lengths
pub mod Output
