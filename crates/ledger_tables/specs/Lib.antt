pub use Rattle.sol_base.specs.Limits
pub mod Texts
pub mod Rows
pub mod Totals
pub mod Columns
pub mod Faults
pub mod Statements
