pub mod Places
pub mod Numbering
pub mod HashedLaws
pub mod Tables
pub mod Clashes
