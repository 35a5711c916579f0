pub use Rattle.sol_base.specs.Accounts
pub mod Rent
