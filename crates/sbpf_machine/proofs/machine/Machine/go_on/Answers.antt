use Rattle.std.proofs.Common.{◌≡◌, ℕ, List, Option, None, refl, sym, ◌∙◌, subst}
use Rattle.std.specs.Arc.{arc_value}
use Rattle.sbpf_machine.specs.declared.run.Ended.{Ended}
use Rattle.sbpf_machine.specs.declared.stop.Stop.{Stop}
use Rattle.sbpf_machine.specs.Runs.{ComesTo, Ends}
use Rattle.sbpf_machine.specs.Steps.{State, state}
use Rattle.sbpf_machine.proofs.Paths.{comes_to, not_there, stays}
use Rattle.sbpf_machine.proofs.Taking.{come_takes}
use Rattle.sbpf_machine.proofs.machine.Machine.go_on.Goals as goal

pub returns-then-is_some-clause-comes : goal.returns-then-is_some-clause-comes
returns-then-is_some-clause-comes c =
    subst (λ (x : State). ComesTo x x) c.self.view_is (stays _ c.self.inside.stop refl (sym c.is_some.ensures ∙ c.if-is_some.true))

pub returns-clause-comes : goal.returns-clause-comes
returns-clause-comes c =
    let text : List ℕ = arc_value c.self.inside.code in
    let same : c.deref-2.result.now ≡ text = c.deref-2.ensures ∙ (c.program.ensures ∙ c.deref.ensures) in
    let ended : Ended = c.run_from-ended.result in
    let none : c.self.inside.stop ≡ None = not_there _ (sym c.is_some.ensures ∙ c.if-is_some.false) in
    let ends = subst (λ (t : List ℕ). Ends t c.self.inside.place c.self.inside.units c.self.inside.context ended c.run_from-ended.new.context) same c.run_from-ended.ensures.ends in
    let new : State = state text ended.place c.run_from-ended.new.context ended.units ended.stop in
    subst (λ (x : State). ComesTo x new) c.self.view_is
    (subst (λ (stop : Option Stop). ComesTo (state text c.self.inside.place c.self.inside.context c.self.inside.units stop) new) (sym none)
    (comes_to text c.self.inside.place c.self.inside.units c.self.inside.context c.run_from-ended.new.context ended.place ended.units ended.stop ends))

pub returns-clause-units : goal.returns-clause-units
returns-clause-units c = come_takes _ _ (returns-clause-comes c)
