use Rattle.std.proofs.Common.{◌≡◌, [], sym, ◌∙◌}
use Rattle.std.proofs.lemmas.List.{nil_from_length}
use Rattle.std.specs.Vec.Iter.{into_iter_items}
use Rattle.intake.proofs.Gathers.{all_done, done_as, one_done}
use Rattle.intake.proofs.gathering.all_seats.Goals as goal

pub loop-done-preserved : goal.loop-done-preserved
loop-done-preserved c =
    one_done done_as c.loop-done.seats c.push.new.self c.in_ok-done.field-0 c.in-Some.done (into_iter_items c.loop-done.done-iterator) (into_iter_items c.next.new.self) c.args.sent.items
    c.in-Some.ensures.steps.0 c.in_ok-done.was c.in_ok-push.ensures.ok c.loop-done.invariant

pub returns : goal.returns
returns c =
    let none : into_iter_items c.loop-done.done-iterator ≡ [] = nil_from_length _ (sym c.loop-done.done-iterator.rest.ok.0 ∙ c.in-None.ensures.steps.0) in
    all_done done_as c.loop-done.seats (into_iter_items c.loop-done.done-iterator) c.args.sent.items none c.loop-done.invariant
