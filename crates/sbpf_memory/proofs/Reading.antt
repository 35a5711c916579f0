-- What a read gives.
use Rattle.std.proofs.Common.{◌≡◌, ℕ, ◌+◌, ◌≤◌, ◌==◌, Bool, true, false, List, [], ◌++◌, length, take, Option, Some, None, Result, Ok, Err, IfOk, if◌then◌else◌, refl, sym, arith, length-take, length-drop}
use Rattle.std.proofs.lemmas.Bool.Decides.{nat_tests}
use Rattle.std.proofs.Math.Seq.{take-append_seam}
use Rattle.sbpf_memory.specs.declared.fault.AccessViolation.{AccessViolation}
use Rattle.sbpf_memory.specs.declared.place.Place.{Place}
use Rattle.sbpf_memory.specs.declared.place.Region.{Region}
use Rattle.sbpf_memory.specs.declared.place.Region.TheVariants.{Program, Stack, Heap, Input}
use Rattle.sbpf_memory.specs.Memory.{Ranges, place_of, range_bytes, bytes_at, read_from, stack_size, violation_of}
use Rattle.sbpf_memory.proofs.Addresses.{RoomIn, stands-from_place}

-- a range has the bytes of each place of it
pub room-fits : (m : Ranges) (len at : ℕ) (region : Region) → length m.stack ≡ stack_size → RoomIn m len at region → at + len ≤ length (range_bytes m region)
room-fits m len at Program stack room = room
room-fits m len at Stack stack room = omega arith
room-fits m len at Heap stack room = room
room-fits m len at Input stack room = room

bytes_at-length : (m : Ranges) (addr len : ℕ) (p : Option Place) → length m.stack ≡ stack_size → 1 ≤ len → place_of m addr len ≡ p → IfOk (bytes_at m addr len p) (λ bytes. length bytes ≡ len)
bytes_at-length m addr len None stack some found = tt
bytes_at-length m addr len (Some place) stack some found =
    let fits = room-fits m len place.at place.region stack (stands-from_place m addr len place some found).room in
    grind (arith, length-take, length-drop)

no_bytes : (b : Bool) (len : ℕ) (result : Result (List ℕ) AccessViolation) → (b ≡ true → len ≡ 0)
    → (b ≡ false → IfOk result (λ bytes. length bytes ≡ len))
    → IfOk (if b then Ok [] else result) (λ bytes. length bytes ≡ len)
no_bytes true len result none some = sym (none refl)
no_bytes false len result none some = some refl

-- a read gives as many bytes as it was asked for
pub read-length : (m : Ranges) (addr len : ℕ) → length m.stack ≡ stack_size → IfOk (read_from m addr len) (λ bytes. length bytes ≡ len)
unfolding read_from
read-length m addr len stack =
    no_bytes (len == 0) len (bytes_at m addr len (place_of m addr len)) (λ none. grind (arith, nat_tests))
    (λ some. bytes_at-length m addr len (place_of m addr len) stack (grind (arith, nat_tests)) refl)

pub ruleset reads = read-length

-- a read of at least one byte
pub read-some : (m : Ranges) (addr len : ℕ) (p : Option Place) → 1 ≤ len → place_of m addr len ≡ p → read_from m addr len ≡ bytes_at m addr len p
unfolding read_from
read-some m addr len p some found = grind (arith, nat_tests)

refused_at : (m : Ranges) (addr len : ℕ) (v : AccessViolation) (p : Option Place) → bytes_at m addr len p ≡ Err v → v ≡ violation_of addr len false
refused_at m addr len v None refused = cc
refused_at m addr len v (Some place) refused = cc

refused_or : (m : Ranges) (addr len : ℕ) (v : AccessViolation) (b : Bool) (p : Option Place) → (if b then Ok [] else bytes_at m addr len p) ≡ Err v → v ≡ violation_of addr len false
refused_or m addr len v true p refused = cc
refused_or m addr len v false p refused = refused_at m addr len v p refused

-- a refused read names itself
pub read-refused : (m : Ranges) (addr len : ℕ) (v : AccessViolation) → read_from m addr len ≡ Err v → v ≡ violation_of addr len false
unfolding read_from
read-refused m addr len v refused = refused_or m addr len v (len == 0) (place_of m addr len) refused

pub read-nothing : (m : Ranges) (addr : ℕ) → read_from m addr 0 ≡ Ok []
unfolding read_from
read-nothing m addr = refl

-- a list that was written over from its front
pub take-filled : (n : ℕ) (xs ys : List ℕ) → n ≡ length xs → take n (xs ++ ys) ≡ xs
take-filled n xs ys same = rw same (take-append_seam xs ys)

pub ruleset filled = take-filled
