pub mod Recent
pub mod Sought
