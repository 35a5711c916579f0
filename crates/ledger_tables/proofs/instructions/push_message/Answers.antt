use Rattle.ledger_tables.specs.Rows.{instruction_row}
use Rattle.ledger_tables.proofs.Numbered.{pushed_more}
use Rattle.ledger_tables.proofs.instructions.push_message.Goals as goal

pub loop-place-preserved : goal.loop-place-preserved
loop-place-preserved c =
    pushed_more (instruction_row c.args.slot c.args.position c.as_slice-keys.result.now) c.loop-place.place
    c.as_slice-instructions.result.now c.index-instructions-place.result c.args.rows.now c.loop-place.rows
    c.push.new.self c.in_ok-instruction_row.field-0 c.loop-place-test.true c.index-instructions-place.is
    c.in_ok-instruction_row.ensures c.loop-place.invariant c.in_ok-push.ensures.ok
