-- Items read by their indexes, one after the other, as a loop reads them.
use Rattle.std.proofs.Common.{◌≡◌, ℕ, ◌+◌, ◌<◌, ◌≤◌, List, [], ◌∷◌, ◌++◌, drop, Result, Ok, Err, zero-add}
use Rattle.std.specs.Prelude.{MatchBool}
use Rattle.std.specs.List.{range_with_len}
use Rattle.std.proofs.lemmas.List.FromFn.{length-range_with_len, get_or-range_with_len}
use Rattle.spec_base.specs.Reading.{each}
use Rattle.spec_base.proofs.Each.{joined, each-more, each-stops, each-done}
use Rattle.cpi_calls.specs.Reads.{is_call_memory}
use Rattle.cpi_calls.specs.declared.fault.CallFault.{CallFault}

-- what is left to read from an index on
abbrev pub left : {Y : Type 0} → (ℕ → Result Y CallFault) → ℕ → ℕ → Result (List Y) CallFault
left one index count = each one (drop index (range_with_len 0 count))

-- one item more is read
pub items-more : {Y : Type 0} (one : ℕ → Result Y CallFault) (done : List Y) (count i : ℕ) (y : Y) → i < count
    → one i ≡ Ok y → joined done (left one i count) ≡ joined (done ++ y ∷ []) (left one (i + 1) count)
items-more one done count i y below h =
    each-more one done (range_with_len 0 count) i 0 y (rw (length-range_with_len 0 count) below) (rw (get_or-range_with_len 0 count i 0 below, zero-add i) h)

-- the next is refused, or memory ran out
pub items-stops : {Y : Type 0} (one : ℕ → Result Y CallFault) (done : List Y) (count i : ℕ) (e : CallFault)
    (total : Result (List Y) CallFault) → i < count → MatchBool (is_call_memory e) (Unit {0}) (one i ≡ Err e)
    → joined done (left one i count) ≡ total → MatchBool (is_call_memory e) (Unit {0}) (total ≡ Err e)
items-stops one done count i e total below h =
    each-stops is_call_memory one done (range_with_len 0 count) i 0 e total (rw (length-range_with_len 0 count) below) (rw (get_or-range_with_len 0 count i 0 below, zero-add i) h)

-- all are read
pub items-done : {Y : Type 0} (one : ℕ → Result Y CallFault) (done : List Y) (count i : ℕ) → count ≤ i → joined done (left one i count) ≡ Ok done
items-done one done count i past = each-done one done (range_with_len 0 count) i (rw (length-range_with_len 0 count) past)
