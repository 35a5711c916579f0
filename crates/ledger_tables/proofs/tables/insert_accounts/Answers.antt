use Rattle.std.proofs.Common.{arith}
use Rattle.ledger_tables.specs.declared.schema.TheConstants.{INSERT_ACCOUNT}
use Rattle.ledger_tables.specs.Columns.{account_columns}
use Rattle.ledger_tables.proofs.Runs.{inserted_more}
use Rattle.ledger_tables.proofs.tables.insert_accounts.Goals as goal

pub loop-row-preserved : goal.loop-row-preserved
loop-row-preserved g c = (
  inserted_more g.S.Store INSERT_ACCOUNT.now account_columns c.args.rows.now c.loop-row.row-index
      c.row-item.result c.args.conn.now c.loop-row.conn c.insert_account.new.conn c.loop-row-test.true
      c.row-item.is
      c.insert_account.ensures.known c.loop-row.invariant.0 c.in_ok-insert_account.ensures.ran,
  omega (arith, c.loop-row.invariant.1, c.insert_account.ensures.known),
)
