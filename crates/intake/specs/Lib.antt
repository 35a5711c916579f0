pub use Rattle.sol_base.specs.Limits
pub use Rattle.message_codec.specs.Parsing
pub mod Gathering
pub mod Layout
pub mod Passes
pub mod Rule
pub mod Seats
pub mod Tickets
