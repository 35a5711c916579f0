use Rattle.std.proofs.Common.{[]}
use Rattle.ledger_tables.specs.Rows.{transaction_row}
use Rattle.ledger_tables.proofs.Numbered.{pushed_more}
use Rattle.ledger_tables.proofs.transactions.transaction_rows.Goals as goal

pub loop-position-preserved : goal.loop-position-preserved
loop-position-preserved c =
    pushed_more (transaction_row c.args.block.now.slot) c.loop-position.position c.as_slice-entries.result.now
    c.index-entries-position.result [] c.loop-position.rows c.push.new.self c.in_ok-transaction_row.field-0
    c.loop-position-test.true c.index-entries-position.is c.in_ok-transaction_row.ensures
    c.loop-position.invariant c.in_ok-push.ensures.ok
