use Rattle.std.proofs.Common.{◌≡◌, ◌∙◌, List, ap, sym, true, false}
use Rattle.sol_base.specs.declared.key.Key.{Key}
use Rattle.admission.specs.declared.chosen.Chosen.{Chosen}
use Rattle.admission.specs.Admission.{units_on}
use Rattle.admission.specs.Sums.{sum_at}
use Rattle.admission.proofs.SumLaws.{late_by_keys, not_late}
use Rattle.admission.proofs.units.Order.late.Goals as goal

pub returns-then-not-passes_in_a_bucket-clause-exact : goal.returns-then-not-passes_in_a_bucket-clause-exact
returns-then-not-passes_in_a_bucket-clause-exact c =
    not_late c.args.limits.now c.args.self.now c.self.inside.chosen.items c.args.one.now c.self.view_is c.self.inside.units c.self.invariant.all (sym c.passes.ensures.exact ∙ c.if-passes.false)
    c.self.inside.buckets.items c.as_slice.result.now c.as_slice-locks.result.now c.passes_in_a_bucket.result
    c.self.invariant.most c.as_slice.ensures.value c.as_slice-locks.ensures c.passes_in_a_bucket.ensures
    c.if-not-passes_in_a_bucket.true

pub returns-then-is_late-clause-exact : goal.returns-then-is_late-clause-exact
returns-then-is_late-clause-exact c =
    let told : (key : Key) → sum_at c.in_ok-sums.sums key
    ≡ units_on key c.self.inside.chosen.items = λ key. c.in_ok-sums.ensures key
    ∙ ap (λ (order : List Chosen). units_on key order) c.as_slice-2.ensures.value in
    late_by_keys c.args.limits.now c.args.self.now c.self.inside.chosen.items c.args.one.now c.self.view_is c.self.inside.units c.self.invariant.all (sym c.passes.ensures.exact ∙ c.if-passes.false)
    c.in_ok-sums.sums c.as_slice-locks.result.now c.passes_key_units-is_late.result true told c.as_slice-locks.ensures c.passes_key_units-is_late.ensures c.if-is_late.true

pub returns-clause-exact : goal.returns-clause-exact
returns-clause-exact c =
    let told : (key : Key) → sum_at c.in_ok-sums.sums key
    ≡ units_on key c.self.inside.chosen.items = λ key. c.in_ok-sums.ensures key
    ∙ ap (λ (order : List Chosen). units_on key order) c.as_slice-2.ensures.value in
    late_by_keys c.args.limits.now c.args.self.now c.self.inside.chosen.items c.args.one.now c.self.view_is c.self.inside.units c.self.invariant.all (sym c.passes.ensures.exact ∙ c.if-passes.false)
    c.in_ok-sums.sums c.as_slice-locks.result.now c.passes_key_units-is_late.result false told c.as_slice-locks.ensures c.passes_key_units-is_late.ensures c.if-is_late.false
