use Rattle.std.proofs.Common.{refl}
use Rattle.bank_core.proofs.Openings.{keys_first, keys_next}
use Rattle.bank_core.proofs.opening.keys_of.Goals as goal

pub loop-position-init : goal.loop-position-init
loop-position-init g c = keys_first (g.L.Locked.job c.args.locked.now) c.new-keys.result.items 0 c.new-keys.ensures.items refl

pub loop-position-preserved : goal.loop-position-preserved
loop-position-preserved g c =
    keys_next (g.L.Locked.job c.args.locked.now) c.loop-position.keys.items c.push_keys.new.keys.items
    c.loop-position.position c.locks.result.now c.loop-position.invariant c.locks.ensures
    c.in_ok-push_keys.ensures
