use Rattle.std.proofs.Common.{◌≡◌, take}
use Rattle.tx_build.specs.Tables.{lookups_of}
use Rattle.tx_build.proofs.tables.lookups_of.Given as goal

-- the lookups so far
abbrev pub invariant-loop-share : goal.invariant-loop-share
invariant-loop-share l = l.lookups ≡ lookups_of (take l.share-index l.shares)
