use Rattle.std.proofs.Common.{sym, ◌∙◌, arith}
use Rattle.block_replay.proofs.Firsts.{ends, goes_on, stops}
use Rattle.block_replay.proofs.comparing.compare_entries.Goals as goal

pub returns-in-Some : goal.returns-in-Some
returns-in-Some c = sym (stops c.args.given.now c.args.replayed.now c.requires.cut c.loop-place.place
    c.index-given-place.result c.index-replayed-place.result c.in-Some.difference c.loop-place-test.true
    c.index-given-place.is c.index-replayed-place.is c.loop-place.invariant
    (sym c.in_ok-difference.ensures ∙ c.in-Some.is))

pub loop-place-preserved : goal.loop-place-preserved
loop-place-preserved c = goes_on c.args.given.now c.args.replayed.now c.requires.cut c.loop-place.place
    c.index-given-place.result c.index-replayed-place.result c.loop-place-test.true c.index-given-place.is
    c.index-replayed-place.is c.loop-place.invariant (sym c.in_ok-difference.ensures ∙ c.in_default.is)

pub returns : goal.returns
returns c = sym (ends c.args.given.now c.args.replayed.now c.requires.cut c.loop-place.place (omega arith) c.loop-place.invariant)
