use Rattle.std.proofs.Common.{◌≡◌, map, take}
use Rattle.json_parts.proofs.fault.owned.Given as goal

abbrev pub invariant-loop-name : goal.invariant-loop-name
invariant-loop-name l = l.known ≡ map (λ n. n.now) (take l.name-index l.names)
