use Rattle.std.proofs.Common.{arith}
use Rattle.ledger_tables.specs.declared.schema.TheConstants.{INSERT_TRANSACTION}
use Rattle.ledger_tables.specs.Columns.{transaction_columns}
use Rattle.ledger_tables.proofs.Runs.{inserted_more}
use Rattle.ledger_tables.proofs.tables.insert_transactions.Goals as goal

pub loop-row-preserved : goal.loop-row-preserved
loop-row-preserved g c = (
  inserted_more g.S.Store INSERT_TRANSACTION.now transaction_columns c.args.rows.now c.loop-row.row-index
      c.row-item.result c.args.conn.now c.loop-row.conn c.insert_transaction.new.conn c.loop-row-test.true
      c.row-item.is
      c.insert_transaction.ensures.known c.loop-row.invariant.0 c.in_ok-insert_transaction.ensures.ran,
  omega (arith, c.loop-row.invariant.1, c.insert_transaction.ensures.known),
)
