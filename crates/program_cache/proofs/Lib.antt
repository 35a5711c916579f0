pub mod ProgramLaws
pub mod Listings
