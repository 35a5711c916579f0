use Rattle.ledger_tables.specs.Rows.{log_row}
use Rattle.ledger_tables.proofs.Numbered.{pushed_more}
use Rattle.ledger_tables.proofs.logs.push_lines.Goals as goal

pub loop-place-preserved : goal.loop-place-preserved
loop-place-preserved c =
    pushed_more (log_row c.args.slot c.args.position) c.loop-place.place c.as_slice-lines.result.now
    c.index-lines-place.result c.args.rows.now c.loop-place.rows c.push.new.self c.in_ok-log_row.field-0
    c.loop-place-test.true c.index-lines-place.is c.in_ok-log_row.ensures c.loop-place.invariant
    c.in_ok-push.ensures.ok
