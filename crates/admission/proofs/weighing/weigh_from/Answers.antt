use Rattle.std.proofs.Common.{◌∙◌, ap, ◌++◌, ◌∷◌, []}
use Rattle.std.specs.Vec.Iter.{into_iter_items}
use Rattle.admission.specs.Admission.{start_of}
use Rattle.admission.specs.declared.weighing.Weighed.{Weighed}
use Rattle.admission.proofs.WeighLaws.{found_more}
use Rattle.admission.proofs.weighing.weigh_from.Goals as goal

pub loop-wire-preserved : goal.loop-wire-preserved
loop-wire-preserved c =
    found_more (start_of c.args.recent.now c.args.accounts.now c.args.limits.now) c.args.first c.args.wires
    c.loop-wire.yielded (into_iter_items c.loop-wire.wire-iterator) (into_iter_items c.next.new.self)
    c.loop-wire.position c.loop-wire.found c.push.new.self
    c.loop-wire.invariant c.in-Some.wire c.in-Some.ensures.steps.0 (c.in_ok-push.ensures.ok ∙ ap (λ (w : Weighed). c.loop-wire.found ++ w ∷ []) c.in_ok-weigh_told.ensures)
