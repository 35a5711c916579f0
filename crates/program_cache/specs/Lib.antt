pub use Rattle.sol_base.specs.Accounts
pub use Rattle.sol_base.specs.Keys
pub use Rattle.account_store.specs.State
pub mod Ready
pub mod Programs
pub mod Kept
