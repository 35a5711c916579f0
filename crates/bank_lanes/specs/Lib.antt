pub use Rattle.bank_law.specs.History
pub use Rattle.bank_law.specs.Machine
pub use Rattle.bank_core.specs.Origins
pub mod Gates
pub mod Steps
pub mod Seats
pub mod Passes
pub mod Groups
