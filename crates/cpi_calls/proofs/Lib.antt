pub mod Loops
pub mod Grants
pub mod Requests
pub mod Within
pub mod Refused
