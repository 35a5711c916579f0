use Rattle.std.proofs.Common.{◌≡◌, take}
use Rattle.std.specs.BTreeMap.{get}
use Rattle.sol_base.specs.declared.key.Key.{Key}
use Rattle.sol_base.specs.Keys.{key_cmp}
use Rattle.tx_build.specs.Mentions.{mentioned}
use Rattle.tx_build.proofs.mentions.strongest_of.Given as goal

-- what the mentions so far ask
abbrev pub invariant-loop-mention : goal.invariant-loop-mention
invariant-loop-mention l = (key : Key) → get key_cmp l.strongest key ≡ mentioned (take l.mention-index l.mentions) key
