pub use Rattle.sol_io.specs.Counts
pub mod Numbers
pub mod Statuses
pub mod Answers
pub mod Inputs
pub mod Deliveries
