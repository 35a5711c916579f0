use Rattle.std.proofs.Common.{take}
use Rattle.ledger_tables.specs.declared.schema.TheConstants.{INSERT_LOG}
use Rattle.ledger_tables.specs.Columns.{log_columns}
use Rattle.ledger_tables.specs.Statements.{Ran, StaysKnown, inserts}
use Rattle.ledger_tables.proofs.tables.insert_logs.Given as goal

-- the rows so far went in
abbrev pub invariant-loop-row : goal.invariant-loop-row
invariant-loop-row g l =
    Ran g.S.Store (inserts INSERT_LOG.now log_columns (take l.row-index l.rows)) l.fn.conn l.conn
    × StaysKnown g.S.Store l.fn.conn l.conn
