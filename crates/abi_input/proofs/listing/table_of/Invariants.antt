use Rattle.std.proofs.Common.{◌≡◌, length, take}
use Rattle.abi_input.specs.Listing.{IsTableOf}
use Rattle.abi_input.proofs.listing.table_of.Given as goal

-- the listings by the metas so far
abbrev pub invariant-loop-place : goal.invariant-loop-place
invariant-loop-place l = record {
  long : length l.table ≡ 256;
  seen : IsTableOf (take l.place l.metas) l.table;
}
