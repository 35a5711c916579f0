-- When a write is refused.
use Rattle.std.proofs.Common.{◌≡◌, ℕ, ◌≤◌, ◌==◌, Bool, true, false, List, [], length, Option, Some, None, Result, Ok, Err, IsOk, if◌then◌else◌, refl, arith}
use Rattle.std.proofs.lemmas.Bool.Decides.{nat_tests}
use Rattle.sbpf_memory.specs.declared.fault.AccessViolation.{AccessViolation}
use Rattle.sbpf_memory.specs.declared.place.Place.{Place}
use Rattle.sbpf_memory.specs.declared.place.Region.{Region}
use Rattle.sbpf_memory.specs.declared.place.Region.TheVariants.{Program, Stack, Heap, Input}
use Rattle.sbpf_memory.specs.Memory.{Ranges, place_of, violation_of, with_bytes_in, with_bytes_at, write_to, refused_in, refused_at, write_refusal}

-- a write is refused as its refusal says, and else it is not
abbrev Follows : Option AccessViolation → Result Ranges AccessViolation → Type 0
Follows None result = IsOk result
Follows (Some v) result = result ≡ Err v

in_region : (m : Ranges) (addr : ℕ) (bytes : List ℕ) (at : ℕ) (region : Region) → Follows (refused_in addr (length bytes) region) (with_bytes_in m addr bytes at region)
in_region m addr bytes at Program = refl
in_region m addr bytes at Stack = refl
in_region m addr bytes at Heap = refl
in_region m addr bytes at Input = refl

at_place : (m : Ranges) (addr : ℕ) (bytes : List ℕ) (place : Option Place) → Follows (refused_at addr (length bytes) place) (with_bytes_at m addr bytes place)
at_place m addr bytes None = refl
at_place m addr bytes (Some place) = in_region m addr bytes place.at place.region

or_nothing : (b : Bool) (m : Ranges) (refusal : Option AccessViolation) (result : Result Ranges AccessViolation)
    → Follows refusal result → Follows (if b then None else refusal) (if b then Ok m else result)
or_nothing true m refusal result follows = refl
or_nothing false m refusal result follows = follows

pub write-follows : (m : Ranges) (addr : ℕ) (bytes : List ℕ) → Follows (write_refusal m addr (length bytes)) (write_to m addr bytes)
unfolding write_refusal write_to
write-follows m addr bytes = or_nothing (length bytes == 0) m _ _ (at_place m addr bytes (place_of m addr (length bytes)))

pub write_to-refused : (m : Ranges) (addr : ℕ) (bytes : List ℕ) (v : AccessViolation) → write_refusal m addr (length bytes) ≡ Some v → write_to m addr bytes ≡ Err v
write_to-refused m addr bytes v refusal = rw refusal at (write-follows m addr bytes)

pub write_to-ok : (m : Ranges) (addr : ℕ) (bytes : List ℕ) → write_refusal m addr (length bytes) ≡ None → IsOk (write_to m addr bytes)
write_to-ok m addr bytes free = rw free at (write-follows m addr bytes)

follows_back : (refusal : Option AccessViolation) (result : Result Ranges AccessViolation) (v : AccessViolation) → Follows refusal result → result ≡ Err v → refusal ≡ Some v
follows_back None result v follows refused = let ok = rw refused at follows in cc
follows_back (Some w) result v follows refused = cc

pub refusal-from_write : (m : Ranges) (addr : ℕ) (bytes : List ℕ) (v : AccessViolation) → write_to m addr bytes ≡ Err v → write_refusal m addr (length bytes) ≡ Some v
refusal-from_write m addr bytes v refused = follows_back (write_refusal m addr (length bytes)) (write_to m addr bytes) v (write-follows m addr bytes) refused

-- a write of at least one byte
pub write-some : (m : Ranges) (addr : ℕ) (bytes : List ℕ) (p : Option Place) → 1 ≤ length bytes → place_of m addr (length bytes) ≡ p → write_to m addr bytes ≡ with_bytes_at m addr bytes p
unfolding write_to
write-some m addr bytes p some found = grind (arith, nat_tests)

refused_in_region : (m : Ranges) (addr : ℕ) (bytes : List ℕ) (at : ℕ) (v : AccessViolation) (region : Region) → with_bytes_in m addr bytes at region ≡ Err v → v ≡ violation_of addr (length bytes) true
refused_in_region m addr bytes at v Program refused = cc
refused_in_region m addr bytes at v Stack refused = cc
refused_in_region m addr bytes at v Heap refused = cc
refused_in_region m addr bytes at v Input refused = cc

refused_at_place : (m : Ranges) (addr : ℕ) (bytes : List ℕ) (v : AccessViolation) (p : Option Place) → with_bytes_at m addr bytes p ≡ Err v → v ≡ violation_of addr (length bytes) true
refused_at_place m addr bytes v None refused = cc
refused_at_place m addr bytes v (Some place) refused = refused_in_region m addr bytes place.at v place.region refused

refused_or : (m : Ranges) (addr : ℕ) (bytes : List ℕ) (v : AccessViolation) (b : Bool) (p : Option Place)
    → (if b then Ok m else with_bytes_at m addr bytes p) ≡ Err v → v ≡ violation_of addr (length bytes) true
refused_or m addr bytes v true p refused = cc
refused_or m addr bytes v false p refused = refused_at_place m addr bytes v p refused

-- a refused write names itself
pub write-refused : (m : Ranges) (addr : ℕ) (bytes : List ℕ) (v : AccessViolation) → write_to m addr bytes ≡ Err v → v ≡ violation_of addr (length bytes) true
unfolding write_to
write-refused m addr bytes v refused = refused_or m addr bytes v (length bytes == 0) (place_of m addr (length bytes)) refused

pub write-nothing : (m : Ranges) (addr : ℕ) → write_to m addr [] ≡ Ok m
unfolding write_to
write-nothing m addr = refl
