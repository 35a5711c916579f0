use Rattle.std.proofs.Common.{◌≡◌, ◌++◌, take}
use Rattle.std.specs.List.{flat_map}
use Rattle.tx_build.proofs.tables.all_keys.Given as goal

-- the keys to write so far
abbrev pub invariant-loop-share : goal.invariant-loop-share
invariant-loop-share l = l.keys.items ≡ l.own ++ flat_map (λ share. share.writable) (take l.share-index l.shares)

-- and the keys to read so far
abbrev pub invariant-loop-share-2 : goal.invariant-loop-share-2
invariant-loop-share-2 l = l.keys.items ≡ (l.own ++ flat_map (λ share. share.writable) l.shares) ++ flat_map (λ share. share.readonly) (take l.share-index l.shares)
