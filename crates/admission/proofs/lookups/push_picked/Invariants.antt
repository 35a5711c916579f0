use Rattle.std.proofs.Common.{◌≡◌, ◌++◌, map, take}
use Rattle.admission.specs.Lookups.{address_at}
use Rattle.admission.proofs.lookups.push_picked.Given as goal

-- the addresses of the indexes so far
abbrev pub invariant-loop-index : goal.invariant-loop-index
invariant-loop-index l = l.keys ≡ l.fn.keys ++ map (address_at l.table) (take l.index-index l.indexes)
