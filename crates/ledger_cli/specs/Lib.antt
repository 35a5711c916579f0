pub mod Batches
pub mod Crew
pub mod Given
pub mod Refusals
