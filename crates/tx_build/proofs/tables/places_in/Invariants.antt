use Rattle.std.proofs.Common.{◌≡◌, take}
use Rattle.tx_build.specs.Tables.{places_in}
use Rattle.tx_build.proofs.tables.places_in.Given as goal

-- the places so far
abbrev pub invariant-loop-mention : goal.invariant-loop-mention
invariant-loop-mention l = l.places ≡ places_in l.table (take l.mention-index l.mentions)
