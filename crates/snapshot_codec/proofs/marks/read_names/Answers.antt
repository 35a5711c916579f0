use Rattle.std.proofs.Common.{[]}
use Rattle.std.proofs.lemmas.Result.{err_from_is_err_and}
use Rattle.spec_base.specs.Reading.{many_after}
use Rattle.spec_base.proofs.Loop.{goes_on, ends, is_done}
use Rattle.snapshot_codec.specs.SnapshotReading.{is_snapshot_memory, name_after}
use Rattle.snapshot_codec.proofs.marks.read_names.Goals as goal

pub returns-in_err-name : goal.returns-in_err-name
returns-in_err-name c =
    let p = err_from_is_err_and c.from_residual-in_err-name.result c.from_residual-in_err-name.ensures.1 in
    rw (p.1, p.2) (ends (name_after c.args.total) is_snapshot_memory c.in_err-name.field-0.0 c.loop.names
    c.args.count c.loop.counter c.loop.rest.now
    (many_after (name_after c.args.total) [] c.args.count c.args.bytes.now) c.loop-test.true
    (rw c.as_slice.ensures at c.in_err-name.ensures) c.loop.invariant)

pub loop-preserved : goal.loop-preserved
loop-preserved c =
    rw c.in_ok-push.ensures.ok (goes_on (name_after c.args.total) c.loop.names c.args.count c.loop.counter
    c.loop.rest.now c.in_ok-name.name c.in_ok-name.after.now
    (many_after (name_after c.args.total) [] c.args.count c.args.bytes.now) c.loop-test.true
    (rw c.as_slice.ensures at c.in_ok-name.ensures) c.loop.invariant)

pub returns : goal.returns
returns c = is_done (name_after c.args.total) c.loop.names c.args.count c.loop.counter c.loop.rest.now
    (many_after (name_after c.args.total) [] c.args.count c.args.bytes.now) c.loop-test.false c.loop.invariant
