use Rattle.std.proofs.Common.{◌≡◌, map, take}
use Rattle.tx_build.specs.Built.{place_of}
use Rattle.tx_build.proofs.message.places_of.Given as goal

-- the places so far
abbrev pub invariant-loop-account : goal.invariant-loop-account
invariant-loop-account l = l.places ≡ map (λ account. place_of l.keys account.key) (take l.account-index l.accounts)
