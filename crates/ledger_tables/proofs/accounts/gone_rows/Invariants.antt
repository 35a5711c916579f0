use Rattle.std.proofs.Common.{◌≡◌, map, take}
use Rattle.ledger_tables.specs.Rows.{gone_row}
use Rattle.ledger_tables.proofs.accounts.gone_rows.Given as goal

-- the rows so far
abbrev pub invariant-loop-key : goal.invariant-loop-key
invariant-loop-key l = l.rows ≡ map (gone_row l.slot) (take l.key-index l.gone)
