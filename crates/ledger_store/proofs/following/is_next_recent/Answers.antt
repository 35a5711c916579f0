use Rattle.std.proofs.Common.{refl, drop, take, length, ◌-◌}
use Rattle.ledger_store.proofs.MarkTests.{more_next}
use Rattle.ledger_store.proofs.following.is_next_recent.Goals as goal

pub returns-in-len1-up : goal.returns-in-len1-up
returns-in-len1-up c = more_next c.args.before.now c.args.after.now
    (take (length c.args.after.now - 1) (drop 1 c.args.after.now)) c.min.result c.are_same_marks.result
    c.in-len1-up.len_at_least refl c.min.ensures c.are_same_marks.ensures
