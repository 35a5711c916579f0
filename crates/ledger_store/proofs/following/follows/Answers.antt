use Rattle.std.proofs.Common.{eq-eqb}
use Rattle.ledger_store.proofs.MarkTests.{follows_so}
use Rattle.ledger_store.proofs.following.follows.Goals as goal

pub returns-then-block-after : goal.returns-then-block-after
returns-then-block-after c =
    follows_so c.args.before.now c.args.after.now c.args.block.now c.marks.result.now
    c.marks-then-block-after.result.now c.is_next_recent.result
    (eq-eqb c.args.block.now.slot c.args.after.now.slot c.if-block-after.true) c.marks.ensures.marks
    c.marks-then-block-after.ensures.marks c.is_next_recent.ensures
