pub use Rattle.message_codec.specs.Wire
pub mod Requests
pub mod Budgets
pub mod Charge
pub mod Fees
