use Rattle.std.proofs.Common.{length, ap, arith}
use Rattle.admission.specs.Admission.{walk}
use Rattle.admission.proofs.WalkLaws.{count_late}
use Rattle.admission.proofs.batch.admit_line.Goals as goal

pub numbered-requires : goal.numbered-requires
numbered-requires c =
    let same = ap length c.deref.ensures.value in
    let late = ap length c.in_ok-order.ensures.causes in
    let count = count_late (walk c.args.limits.now c.args.line.items).refused c.args.causes.items in
    omega (arith, same, late, count, c.requires.few)
