pub mod Search
pub mod SoughtLaws
