pub mod Drafts
pub mod Keeping
pub mod Listings
pub mod Refused
