pub mod Calls
pub mod Fields
pub mod Rows
pub mod Slots
