use Rattle.std.proofs.Common.{sym}
use Rattle.std.proofs.lemmas.List.{map_more}
use Rattle.tx_exec.specs.Executing.{meta_of}
use Rattle.tx_exec.proofs.roles.metas_of.Goals as goal

pub loop-place-preserved : goal.loop-place-preserved
loop-place-preserved c =
    rw (c.in_ok-push.ensures.ok, c.meta_at.ensures, c.loop-place.invariant)
    (sym (map_more (meta_of c.args.chosen.now) c.as_slice-accounts.result.now c.loop-place.place-index _
    c.loop-place-test.true))
