pub use Rattle.spec_base.specs.Reading
pub use Rattle.sol_base.specs.Accounts
pub use Rattle.sol_base.specs.Keys
pub mod State
pub mod Shared
pub mod Sorted
