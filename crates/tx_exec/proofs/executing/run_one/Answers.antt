use Rattle.std.proofs.Common.{◌≡◌, ap, map, subst}
use Rattle.admission.specs.declared.chosen.Chosen.{Chosen}
use Rattle.tx_exec.specs.Executing.{meta_of}
use Rattle.tx_exec.specs.declared.transaction.Transaction.{Transaction}
use Rattle.tx_exec.proofs.Fitting.{call_fits}
use Rattle.tx_exec.proofs.executing.run_one.Goals as goal

pub watch_invocation-requires-clause-call : goal.watch_invocation-requires-clause-call
watch_invocation-requires-clause-call g c =
    let same = ap (λ (t : Transaction). t.chosen.now) c.transaction.view_is in
    let metas = subst (λ (t : Chosen). c.in_ok-metas.metas ≡ map (meta_of t) c.args.instruction.now.accounts) same c.in_ok-metas.ensures in
    rw (c.requires.keys, c.as_slice-2.ensures, c.as_slice.ensures, metas) (call_fits c.args.transaction.now.chosen.now c.args.instruction.now c.requires.named c.requires.short)
