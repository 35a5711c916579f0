use Rattle.std.proofs.Common.{◌≡◌, ◌++◌, take}
use Rattle.tx_build.specs.Classes.{is_writable_other, keys_where}
use Rattle.tx_build.proofs.classes.add_writable_others.Given as goal

-- the keys so far
abbrev pub invariant-loop-mention : goal.invariant-loop-mention
invariant-loop-mention l = l.keys ≡ l.fn.keys ++ keys_where is_writable_other (take l.mention-index l.mentions)
