use Rattle.std.specs.Vec.Iter.{into_iter_items}
use Rattle.block_end.specs.Activation.{IsPartly}
use Rattle.block_end.proofs.activation.activate_all.Given as goal

-- those that are left are still to be put
abbrev pub invariant-loop-found : goal.invariant-loop-found
invariant-loop-found l = IsPartly l.fn.accounts l.accounts (into_iter_items l.found-iterator)
