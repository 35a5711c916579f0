pub mod Keys
pub mod Accounts
pub mod DerivedKeys
pub mod Limits
pub mod Locks
pub mod Metas
pub mod Base58
