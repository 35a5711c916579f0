-- What the transactions of a block come to together (the project's own).
use Rattle.std.specs.Prelude.{Bool, true, false, length, count_by, sum_by}
use Rattle.tx_report.specs.declared.status.Status.{Status}
use Rattle.tx_report.specs.declared.status.Status.TheVariants.{Good, Failed, Dropped}
use Rattle.block_record.specs.declared.block.Block.{Block}
use Rattle.ledger_tables.specs.declared.totals.BlockTotals.{BlockTotals}

-- its status is not Ok
abbrev pub is_unsuccessful : Status → Bool
is_unsuccessful Good = false
is_unsuccessful (Failed _ _ _) = true
is_unsuccessful (Dropped _) = true

abbrev pub totals_of : Block → BlockTotals
totals_of block =
    record {
      transactions = length block.entries;
      failed = count_by (λ entry. is_unsuccessful entry.status) block.entries;
      units = sum_by (λ entry. entry.units) block.entries;
      fees = sum_by (λ entry. entry.fee) block.entries;
    }
