use Rattle.std.proofs.Common.{[]}
use Rattle.ledger_tables.specs.Rows.{lines_of_entry}
use Rattle.ledger_tables.proofs.Numbered.{appended_more}
use Rattle.ledger_tables.proofs.logs.log_rows.Goals as goal

pub loop-position-preserved : goal.loop-position-preserved
loop-position-preserved c =
    appended_more (lines_of_entry c.args.block.now.slot) c.loop-position.position c.as_slice-entries.result.now
    c.index-entries-position.result [] c.loop-position.rows c.push_lines.new.rows c.loop-position-test.true
    c.index-entries-position.is c.loop-position.invariant c.in_ok-push_lines.ensures
