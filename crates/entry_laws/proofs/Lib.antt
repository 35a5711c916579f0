pub mod Steps
pub mod EntryLaws
pub mod TotalLaws
pub mod LeftLaws
pub mod OrderLaws
pub mod OnceLaws
pub mod StretchLaws
pub mod OwnerLaws
