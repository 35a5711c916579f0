pub use Rattle.sol_base.specs.Keys
pub use Rattle.bank_law.specs.Job
pub mod Numbers
pub mod Tables
pub mod Laws
