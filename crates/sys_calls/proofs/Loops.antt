-- Slices gathered one after the other, as a loop does them.
use Rattle.std.proofs.Common.{◌≡◌, ℕ, ◌+◌, ◌-◌, ◌<◌, ◌≤◌, List, ◌++◌, length, drop, get_or, Result, Ok, Err, Bool, true, false, refl, sym, ap, append_assoc, append-nil, arith}
use Rattle.std.specs.Prelude.{nat_lt, if◌then◌else◌}
use Rattle.std.proofs.lemmas.List.{drop_more, drop_all}
use Rattle.std.proofs.lemmas.List.FromFn.{map-range_with_len_more}
use Rattle.std.proofs.lemmas.Bool.Decides.{nat_tests}
use Rattle.sbpf_memory.specs.Memory.{Ranges}
use Rattle.sys_calls.specs.declared.slices.Slice.{Slice}
use Rattle.sys_calls.specs.declared.fault.SysFault.{SysFault}
use Rattle.sys_calls.specs.declared.fault.SysFault.TheVariants.{UnitsSpent}
use Rattle.sys_calls.specs.Slices.{Gathered, gathered, before, slice_cost, slice_read}

before-before : (done bytes : List ℕ) (g : Gathered) → before done (before bytes g) ≡ before (done ++ bytes) g
before-before done bytes g = by_case g.units g.bytes
  where
    by_case : (units : ℕ) (r : Result (List ℕ) SysFault) → before done (before bytes (record { units = units; bytes = r })) ≡ before (done ++ bytes) (record { units = units; bytes = r })
    by_case units (Ok more) = ap (λ (l : List ℕ). let g : Gathered = record { units = units; bytes = Ok l } in g) (sym (append_assoc done bytes more))
    by_case units (Err e) = refl

-- the next slice is refused
pub gather-stops : (m : Ranges) (units : ℕ) (done : List ℕ) (xs : List Slice) (i : ℕ) (d : Slice) (e : SysFault) → i < length xs → (let x : Slice = get_or xs i d in slice_read m units x) ≡ Err e
    → before done (gathered m units (drop i xs)) ≡ (let x : Slice = get_or xs i d in record { units = units - slice_cost x.len; bytes = Err e })
unfolding gathered
gather-stops m units done xs i d e below stopped = rw (drop_more xs i d below, stopped) refl

-- the next slice is read
pub gather-more : (m : Ranges) (units : ℕ) (done : List ℕ) (xs : List Slice) (i : ℕ) (d : Slice) (bytes : List ℕ) → i < length xs → (let x : Slice = get_or xs i d in slice_read m units x) ≡ Ok bytes
    → before done (gathered m units (drop i xs)) ≡ (let x : Slice = get_or xs i d in before (done ++ bytes) (gathered m (units - slice_cost x.len) (drop (i + 1) xs)))
unfolding gathered
gather-more m units done xs i d bytes below read =
    rw (drop_more xs i d below, read) (before-before done bytes (let x : Slice = get_or xs i d in gathered m (units - slice_cost x.len) (drop (i + 1) xs)))

-- all slices are read
pub gather-done : (m : Ranges) (units : ℕ) (done : List ℕ) (xs : List Slice) (i : ℕ) → length xs ≤ i → before done (gathered m units (drop i xs)) ≡ record { units = units; bytes = Ok done }
unfolding gathered
gather-done m units done xs i past =
    rw (drop_all i xs past) (ap (λ (l : List ℕ). let g : Gathered = record { units = units; bytes = Ok l } in g) (append-nil done))

pub ruleset ranges = map-range_with_len_more

-- a slice in the place of one that is not there
abbrev pub no_slice : Slice
no_slice = record { addr = 0; len = 0 }

-- too few units were left
pub charge-refused : (spent : Bool) (e : SysFault) → (let r : Result (Unit {0}) SysFault = Err e in r) ≡ (if spent then Err UnitsSpent else Ok tt) → (spent ≡ true) × (e ≡ UnitsSpent)
charge-refused true e h = (refl, cc)
charge-refused false e h = absurd (cc)

-- units were taken
pub charge-paid : (spent : Bool) → (let r : Result (Unit {0}) SysFault = Ok tt in r) ≡ (if spent then Err UnitsSpent else Ok tt) → spent ≡ false
charge-paid true h = absurd (cc)
charge-paid false h = refl

pub spent-none : (units cost : ℕ) → nat_lt units cost ≡ true → units - cost ≡ 0
spent-none units cost spent = grind (arith, nat_tests)
