use Rattle.std.proofs.Common.{◌≤◌, length, arith}
use Rattle.status_cache.specs.Recent.{has_name}
use Rattle.admission.proofs.SiftLaws.{told_all, told_more}
use Rattle.admission.proofs.sift.find_repeats.Goals as goal

pub loop-one-preserved : goal.loop-one-preserved
loop-one-preserved c =
    told_more c.args.batch.now c.loop-one.one-index c.loop-one.repeats.items c.push.new.self.items (has_name c.loop-one.names) (has_name c.repeats_one.new.names) c.loop-one.invariant
    c.one-item.result c.loop-one-test.true c.one-item.is c.in_ok-is_repeated.is_repeated c.in_ok-is_repeated.ensures.repeated c.in_ok-is_repeated.ensures.names c.in_ok-push.ensures.items

pub returns : goal.returns
returns c =
    let over : length c.args.batch.now ≤ c.loop-one.one-index = omega arith in
    told_all c.args.batch.now c.loop-one.one-index c.loop-one.repeats.items (has_name c.loop-one.names) c.loop-one.invariant over
