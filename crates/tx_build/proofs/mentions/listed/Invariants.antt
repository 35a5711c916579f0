use Rattle.std.proofs.Common.{◌≡◌, take}
use Rattle.std.specs.List.{flat_map, enumerate_from}
use Rattle.std.specs.BTreeMap.{get}
use Rattle.sol_base.specs.declared.key.Key.{Key}
use Rattle.sol_base.specs.Keys.{key_cmp}
use Rattle.tx_build.specs.Mentions.{added}
use Rattle.tx_build.proofs.Merging.{unlisted_at}
use Rattle.tx_build.proofs.mentions.listed.Given as goal

-- the first mentions so far, and what is asked of the keys that are left
abbrev pub invariant-loop-mention : goal.invariant-loop-mention
invariant-loop-mention l = (l.once
    ≡ flat_map (added l.mentions) (enumerate_from 0 (take l.mention-index l.mentions)))
    × ((key : Key) → get key_cmp l.unlisted key ≡ unlisted_at l.mentions l.mention-index key)
