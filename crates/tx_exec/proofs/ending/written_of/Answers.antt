use Rattle.std.proofs.Common.{◌<◌, length, arith}
use Rattle.tx_exec.proofs.Lent.{written_more}
use Rattle.tx_exec.proofs.ending.written_of.Goals as goal

pub loop-place-preserved : goal.loop-place-preserved
loop-place-preserved c =
    let count = c.requires in
    let below = c.loop-place-test.true in
    let there : c.loop-place.place < length c.args.values.now = omega (arith, count, below) in
    written_more c.args.locks.now c.args.values.now c.loop-place.written c.push_written.new.written
    c.loop-place.place _ c.index-values-place.result below there c.index-values-place.is
    c.loop-place.invariant c.in_ok-push_written.ensures
