use Rattle.std.proofs.Common.{◌<◌, ◌+◌, rules, sym, ap, subst}
use Rattle.sbpf_verify.specs.Places.{max_slots}
use Rattle.sbpf_verify.proofs.Starts.{start_below}
use Rattle.sbpf_machine.specs.Steps.{IsHelper, State}
use Rattle.sbpf_machine.proofs.machine.Machine.resume.Goals as goal

pub overflow_add-self : goal.overflow_add-self
overflow_add-self c =
    let helper : IsHelper c.self.inside.stop = subst IsHelper (ap (λ (x : State). x.stop) (sym c.self.view_is)) c.requires in
    let below : c.self.inside.place + 1 < max_slots = start_below _ _ c.self.invariant.verified (c.self.invariant.next helper) in
    search rules
