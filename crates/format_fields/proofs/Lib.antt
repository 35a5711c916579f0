pub mod Adding
pub mod FieldLaws
pub mod Sized
