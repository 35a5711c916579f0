use Rattle.std.proofs.Common.{◌≡◌, map, take}
use Rattle.tx_build.specs.Signing.{signature_of}
use Rattle.tx_build.proofs.signing.signatures_of.Given as goal

-- the signatures so far
abbrev pub invariant-loop-key : goal.invariant-loop-key
invariant-loop-key l = l.signatures ≡ map (signature_of l.name) (take l.key-index l.keys)
