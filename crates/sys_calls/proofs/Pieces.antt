-- A part of a range that may be read.
use Rattle.std.proofs.Common.{◌≡◌, ℕ, ◌+◌, ◌-◌, ◌^◌, ◌≤◌, ◌<◌, List, [], length, take, drop, Option, Some, None, Result, Ok, Err, IsOk, MatchResult, refl, sym, ap, ◌∙◌, arith}
use Rattle.std.proofs.lemmas.List.{drop-take, take-take, drop-drop}
use Rattle.std.specs.Result.{result_unwrap_or}
use Rattle.sbpf_memory.specs.declared.fault.AccessViolation.{AccessViolation}
use Rattle.sbpf_memory.specs.declared.place.Place.{Place}
use Rattle.sbpf_memory.specs.declared.place.Region.{Region}
use Rattle.sbpf_memory.specs.declared.place.Region.TheVariants.{Program, Stack, Heap, Input}
use Rattle.sbpf_memory.specs.Memory.{Ranges, IsMemory, place_of, range_bytes, bytes_at, read_from}
use Rattle.sbpf_memory.proofs.Addresses.{address_in, RoomIn, stands-from_place, place-from_stands}
use Rattle.sbpf_memory.proofs.ByAddress.{further, inner-stands, read-count}
use Rattle.sbpf_memory.proofs.Reading.{read-some}
use Rattle.sbpf_memory.specs.Plain.{plain_memory}
use Rattle.sys_calls.specs.Access.{held, IsReadable, bytes_read}
use Rattle.sbpf_memory.proofs.Plain.{read-plain}

low : (m : Ranges) (at len : ℕ) (region : Region) → IsMemory m → RoomIn m len at region → address_in at region + len < 2 ^ 35
low m at len Program is room = omega (arith, room, is.program)
low m at len Stack is room = omega (arith, room.0, room.1)
low m at len Heap is room = omega (arith, room, is.heap)
low m at len Input is room = omega (arith, room, is.input)

-- the place of a part
pub place-part : (m : Ranges) (addr len more count : ℕ) (place : Place) → IsMemory m
    → place_of m addr len ≡ Some place → 1 ≤ count → more + count ≤ len
    → place_of m (addr + more) count ≡ Some (record { region = place.region; at = place.at + more })
place-part m addr len more count place is found some fits =
    let stands = stands-from_place m addr len place (omega arith) found in
    place-from_stands m (addr + more) count (further place more) is some (inner-stands m addr len more count place stands some fits)

-- a place has a small address
pub place-low : (m : Ranges) (addr len : ℕ) (place : Place) → IsMemory m → 1 ≤ len → place_of m addr len ≡ Some place → addr + len < 2 ^ 35
place-low m addr len place is some found =
    let stands = stands-from_place m addr len place some found in
    let u = low m place.at len place.region is stands.room in
    let v = stands.address in
    omega (arith, u, v)

list-part : (xs : List ℕ) (at len more count : ℕ) → more + count ≤ len → take count (drop (at + more) xs) ≡ take count (drop more (take len (drop at xs)))
list-part xs at len more count fits =
    let size : len ≡ more + (len - more) = omega arith in
    let short : count ≤ len - more = omega arith in
    sym (
    ap (λ n. take count (drop more (take n (drop at xs)))) size
    ∙ ap (take count) (drop-take more (len - more) (drop at xs))
    ∙ take-take count (len - more) (drop more (drop at xs)) short
    ∙ ap (take count) (drop-drop more at xs)
    )

-- what a part of a range holds, whose addresses are small
pub record Part (m : Ranges) (addr len more count : ℕ) : Type 0 where
  pub bytes : read_from m (addr + more) count ≡ Ok (take count (drop more (held m addr len)))
  pub small : addr + len < 2 ^ 35

part_at : (m : Ranges) (addr len more count : ℕ) (p : Option Place) → IsMemory m → place_of m addr len ≡ p → IsOk (bytes_at m addr len p) → 1 ≤ count → more + count ≤ len → Part m addr len more count
unfolding held
part_at m addr len more count None is found ok some fits = absurd (cc)
part_at m addr len more count (Some place) is found ok some fits =
    let whole : 1 ≤ len = omega arith in
    let stands = stands-from_place m addr len place whole found in
    record {
      bytes =
          read-some m (addr + more) count (Some (record { region = place.region; at = place.at + more })) some (place-part m addr len more count place is found some fits)
          ∙ ap Ok (
          list-part (range_bytes m place.region) place.at len more count fits
          ∙ ap (λ (r : Result (List ℕ) AccessViolation). take count (drop more (result_unwrap_or r []))) (sym (read-some m addr len (Some place) whole found))
          );
      small = let u = low m place.at len place.region is stands.room in let v = stands.address in omega (arith, u, v);
    }

pub part : (m : Ranges) (addr len more count : ℕ) → IsMemory m → IsOk (read_from m addr len) → 1 ≤ count → more + count ≤ len → Part m addr len more count
part m addr len more count is ok some fits =
    let whole : 1 ≤ len = omega arith in
    part_at m addr len more count (place_of m addr len) is refl (rw (read-some m addr len (place_of m addr len) whole refl) at ok) some fits

is_held : (r : Result (List ℕ) AccessViolation) → IsOk r → r ≡ Ok (result_unwrap_or r [])
is_held (Ok bytes) ok = refl
is_held (Err v) ok = absurd (cc)

pub read-held : (m : Ranges) (addr len : ℕ) → IsOk (read_from m addr len) → read_from m addr len ≡ Ok (held m addr len)
unfolding held
read-held m addr len ok = is_held (read_from m addr len) ok

-- a range that may be read has as many bytes as were asked for
pub length-held : (m : Ranges) (addr len : ℕ) → IsMemory m → IsOk (read_from m addr len) → length (held m addr len) ≡ len
length-held m addr len is ok = read-count m addr len (held m addr len) is (read-held m addr len ok)

-- what a read of a part gave
pub given : (result : Result (Unit {0}) AccessViolation) (r : Result (List ℕ) AccessViolation)
    (old new bytes : List ℕ) → MatchResult result (λ _. r ≡ Ok new) (λ v. (r ≡ Err v) × (new ≡ old))
    → r ≡ Ok bytes → new ≡ bytes
given (Ok done) r old new bytes answer read = cc
given (Err v) r old new bytes answer read = let refused : r ≡ Err v = answer.0 in absurd (cc)

pub held-plain : (m : Ranges) (addr len : ℕ) → held (plain_memory m) addr len ≡ held m addr len
unfolding held
held-plain m addr len = rw (read-plain m addr len) refl

pub memory-plain : (m : Ranges) → IsMemory m → IsMemory (plain_memory m)
memory-plain m is = record { program = is.program; stack = is.stack; heap = is.heap; input = is.input }

pub memory-bare : (m : Ranges) → IsMemory (plain_memory m) → IsMemory m
memory-bare m is = record { program = is.program; stack = is.stack; heap = is.heap; input = is.input }

-- what may be read gives the bytes that are held
pub bytes_read-held : (m : Ranges) (addr len : ℕ) → IsReadable m addr len → bytes_read m addr len ≡ Ok (held m addr len)
bytes_read-held m addr len ok = rw (read-held m addr len ok) refl

pub ruleset readable = bytes_read-held
