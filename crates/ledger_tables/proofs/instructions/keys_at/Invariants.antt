use Rattle.std.proofs.Common.{◌≡◌, map, take}
use Rattle.ledger_tables.specs.Rows.{key_at}
use Rattle.ledger_tables.proofs.instructions.keys_at.Given as goal

-- the keys so far
abbrev pub invariant-loop-place : goal.invariant-loop-place
invariant-loop-place l = l.found ≡ map (key_at l.keys) (take l.place-index l.places)
