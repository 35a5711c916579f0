use Rattle.std.proofs.Common.{◌≡◌, ◌++◌, length, take}
use Rattle.std.specs.List.{flat_map}
use Rattle.message_codec.specs.Compact.{compact}
use Rattle.message_codec.proofs.array.write_array.Given as goal

-- the items so far
abbrev pub invariant-loop-item : goal.invariant-loop-item
invariant-loop-item g l = l.out ≡ l.fn.out ++ (compact (length l.items) ++ flat_map g.T.Spelled.item_bytes (take l.item-index l.items))
