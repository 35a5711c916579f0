use Rattle.std.proofs.Common.{◌≡◌, take}
use Rattle.tx_build.specs.Tables.{keys_in}
use Rattle.tx_build.proofs.tables.keys_of.Given as goal

-- the keys so far
abbrev pub invariant-loop-mention : goal.invariant-loop-mention
invariant-loop-mention l = l.keys ≡ keys_in (take l.mention-index l.mentions)
