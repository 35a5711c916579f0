use Rattle.std.proofs.Common.{sym}
use Rattle.snapshot_codec.specs.Length.{behind_many}
use Rattle.snapshot_codec.proofs.LengthLaws.{one_more, cut, all_passed}
use Rattle.snapshot_codec.proofs.length.behind_many.Goals as goal

pub returns-in_err-rest : goal.returns-in_err-rest
returns-in_err-rest g c = rw c.from_residual.ensures
    (cut g.T.Passed.behind_one c.args.count c.loop.counter c.loop.rest.now
    (behind_many g.T.Passed.behind_one c.args.count c.args.bytes.now) c.loop-test.true
    (sym c.in_err-rest.ensures) c.loop.invariant)

pub loop-preserved : goal.loop-preserved
loop-preserved g c = one_more g.T.Passed.behind_one c.args.count c.loop.counter c.loop.rest.now
    c.in_ok-rest.rest.now (behind_many g.T.Passed.behind_one c.args.count c.args.bytes.now) c.loop-test.true
    (sym c.in_ok-rest.ensures) c.loop.invariant

pub returns : goal.returns
returns g c = all_passed g.T.Passed.behind_one c.args.count c.loop.counter c.loop.rest.now (behind_many g.T.Passed.behind_one c.args.count c.args.bytes.now) c.loop-test.false c.loop.invariant
