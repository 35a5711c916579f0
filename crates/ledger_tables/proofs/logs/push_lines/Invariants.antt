use Rattle.std.proofs.Common.{◌≡◌, ◌++◌, map, take}
use Rattle.std.specs.List.{enumerate_from}
use Rattle.ledger_tables.specs.Rows.{log_row}
use Rattle.ledger_tables.proofs.logs.push_lines.Given as goal

-- the rows so far
abbrev pub invariant-loop-place : goal.invariant-loop-place
invariant-loop-place l = l.rows ≡ l.fn.rows ++ map (log_row l.slot l.position) (enumerate_from 0 (take l.place l.lines))
