pub use Rattle.sol_io.specs.Bytes
pub use Rattle.sol_io.specs.Counts
pub use Rattle.command_parts.specs.Deliveries
pub mod Texts
pub mod Answer
pub mod Ending
pub mod Ahead
