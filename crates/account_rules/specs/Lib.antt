pub use Rattle.sol_base.specs.Accounts
pub use Rattle.sol_base.specs.Metas
pub mod AccountRules
pub mod KeptAccounts
pub mod Listings
pub mod Wallets
