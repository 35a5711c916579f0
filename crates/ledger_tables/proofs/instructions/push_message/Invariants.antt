use Rattle.std.proofs.Common.{◌≡◌, ◌++◌, map, take}
use Rattle.std.specs.List.{enumerate_from}
use Rattle.ledger_tables.specs.Rows.{instruction_row}
use Rattle.ledger_tables.proofs.instructions.push_message.Given as goal

-- the rows so far
abbrev pub invariant-loop-place : goal.invariant-loop-place
invariant-loop-place l = l.rows ≡ l.fn.rows ++ map (instruction_row l.slot l.position l.keys) (enumerate_from 0 (take l.place l.instructions))
