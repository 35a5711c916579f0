use Rattle.std.proofs.Common.{◌+◌, ◌<◌, ◌∙◌, List, Option, IfNone, length, set, sym, ap, subst, arith, Some}
use Rattle.std.specs.Prelude.{◌^◌}
use Rattle.std.specs.Vec.Iter.{into_iter_items}
use Rattle.account_store.proofs.SortedLaws.{next-of-all}
use Rattle.admission.specs.declared.chosen.Chosen.{Chosen}
use Rattle.admission.specs.declared.refusal.Refusal.{Refusal}
use Rattle.admission.specs.Admission.{late, units_of}
use Rattle.admission.proofs.WalkLaws.{AreWalked, none_late, same_count, split, walked_late}
use Rattle.admission.proofs.walk.walk.Goals as goal

pub loop-one-init : goal.loop-one-init
loop-one-init c = record {
  all = c.into_iter-one-iterator.ensures.into_iter_gives.0;
  ordered = c.in_ok-order.ensures;
  caused = none_late c.args.causes.now.items;
}

pub index_mut-requires : goal.index_mut-requires
index_mut-requires c =
    let line = c.args.line.items in
    let first = c.args.causes.now.items in
    let left = into_iter_items c.loop-one.one-iterator in
    let more = into_iter_items c.next.new.self in
    let so_far : AreWalked c.args.limits.now line c.loop-one.yielded left c.loop-one.order first
    c.loop-one.causes.items = record {
      all = c.loop-one.invariant.all;
      ordered =
          c.loop-one.invariant.ordered;
      caused = c.loop-one.invariant.caused;
    } in
    let whole = split c.args.limits.now line c.loop-one.yielded left more c.loop-one.order first c.loop-one.causes.items so_far c.in-Some.one c.in-Some.ensures.steps.0 in
    let count = same_count c.args.limits.now line c.loop-one.yielded left more c.loop-one.order first c.loop-one.causes.items so_far c.in-Some.one c.in-Some.ensures.steps.0 in
    let below = next-of-all (λ (one : Chosen). one.position < length first) c.loop-one.yielded more line c.in-Some.one c.requires.places whole in
    let place = ap (λ (one : Chosen). one.position) c.chosen-in-Some-2.ensures in
    omega (arith, below, count, place)

pub loop-one-preserved-in-Some-branch-3 : goal.loop-one-preserved-in-Some-branch-3
loop-one-preserved-in-Some-branch-3 c =
    let line = c.args.line.items in
    let first = c.args.causes.now.items in
    let left = into_iter_items c.loop-one.one-iterator in
    let more = into_iter_items c.next.new.self in
    let so_far : AreWalked c.args.limits.now line c.loop-one.yielded left c.loop-one.order first
    c.loop-one.causes.items = record {
      all = c.loop-one.invariant.all;
      ordered =
          c.loop-one.invariant.ordered;
      caused = c.loop-one.invariant.caused;
    } in
    let whole = split c.args.limits.now line c.loop-one.yielded left more c.loop-one.order first c.loop-one.causes.items so_far c.in-Some.one c.in-Some.ensures.steps.0 in
    let below = next-of-all (λ (one : Chosen). one.position < length first) c.loop-one.yielded more line c.in-Some.one c.requires.places whole in
    let next = walked_late c.args.limits.now line c.loop-one.yielded left more c.loop-one.order first c.loop-one.causes.items so_far c.in-Some.one c.in-Some.ensures.steps.0
    c.in-Some-2.cause (set c.loop-one.causes.items c.chosen-in-Some-2.result.now.position
    (Some c.in-Some-2.cause)) (ap (late c.args.limits.now c.loop-one.order) (sym c.chosen.ensures)
    ∙ sym c.in_ok-cause.ensures.exact ∙ c.in-Some-2.is) below
    (ap (λ (one : Chosen). set c.loop-one.causes.items one.position (Some c.in-Some-2.cause)) c.chosen-in-Some-2.ensures) in
    record { all = next.all; ordered = c.in_ok-cause.ensures.same ∙ next.ordered; caused = next.caused }

pub push-requires-clause-fits : goal.push-requires-clause-fits
push-requires-clause-fits c =
    subst (λ (order : List Chosen). units_of order + c.in-Some.one.budget.limit < 2 ^ 64) (sym c.in_ok-cause.ensures.same)
    (subst (λ (one : Chosen). units_of c.loop-one.order + one.budget.limit < 2 ^ 64) c.chosen.ensures
    (subst (λ (late : Option Refusal). IfNone late (units_of c.loop-one.order + c.chosen.result.now.budget.limit < 2 ^ 64)) c.in-None-2.is c.in_ok-cause.ensures.fits))
