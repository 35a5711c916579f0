pub use Rattle.tx_report.specs.Outcomes
pub use Rattle.bank_core.specs.Ends
pub use Rattle.block_end.specs.Ending
pub use Rattle.block_end.specs.RecordPrefix
