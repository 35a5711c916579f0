use Rattle.std.proofs.Common.{◌≡◌, take}
use Rattle.std.specs.List.{enumerate_from, flat_map}
use Rattle.ledger_tables.specs.Rows.{rows_of_entry}
use Rattle.ledger_tables.proofs.instructions.instruction_rows.Given as goal

-- the rows so far
abbrev pub invariant-loop-position : goal.invariant-loop-position
invariant-loop-position l = l.rows ≡ flat_map (rows_of_entry l.before l.block.slot) (enumerate_from 0 (take l.position l.entries))
