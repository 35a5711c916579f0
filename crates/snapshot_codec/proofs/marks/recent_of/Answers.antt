use Rattle.std.proofs.lemmas.List.{append-nil}
use Rattle.snapshot_codec.proofs.MarkLaws.{taken_ascends, moved, fewer, none_left}
use Rattle.snapshot_codec.proofs.marks.recent_of.Goals as goal

pub loop-mark-init : goal.loop-mark-init
loop-mark-init c = rw c.new-recent.ensures (append-nil c.args.marks)

pub advance-requires : goal.advance-requires
advance-requires c = taken_ascends c.args.marks c.loop-mark.marks c.pop.new.self c.loop-mark.recent c.in-Some.mark c.requires c.in-Some.ensures.some c.loop-mark.invariant

pub loop-mark-preserved : goal.loop-mark-preserved
loop-mark-preserved c = moved c.args.marks c.loop-mark.marks c.pop.new.self c.loop-mark.recent
    c.advance.new.self c.in-Some.mark c.requires c.in-Some.ensures.some c.loop-mark.invariant
    c.in_ok-advance.ensures.ok

pub loop-mark-smaller : goal.loop-mark-smaller
loop-mark-smaller c = fewer c.loop-mark.marks c.pop.new.self c.in-Some.mark c.in-Some.ensures.some

pub returns : goal.returns
returns c = none_left c.pop.result c.loop-mark.marks c.pop.new.self c.loop-mark.recent c.args.marks c.in_default.not-Some c.pop.ensures.none c.loop-mark.invariant
