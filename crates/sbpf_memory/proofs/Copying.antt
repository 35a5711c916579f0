-- What a copy does, and when it is refused and by which test.
use Rattle.std.proofs.Common.{◌≡◌, ◌≢◌, ◌≤◌, ◌+◌, ◌&&◌, ℕ, Bool, true, false, List, length, drop, None, Some, Ok, Err, nat_lt, refl, ap, ◌∙◌, arith, length-drop}
use Rattle.std.proofs.lemmas.List.{length-take-le}
use Rattle.sbpf_memory.specs.declared.fault.MemFault.TheVariants.{Overlap}
use Rattle.sbpf_memory.specs.declared.place.Place.{Place}
use Rattle.sbpf_memory.specs.declared.place.Region.{Region}
use Rattle.sbpf_memory.specs.declared.place.Region.TheVariants.{Program, Stack, Heap, Input}
use Rattle.sbpf_memory.specs.Copies.{bytes_of_place, copied_in, written_in, IsTarget}
use Rattle.sbpf_memory.specs.Memory.{Ranges, range_bytes, read_from, place_of, violation_of, with_bytes_in, write_to, write_refusal, copy_of, copy_to, or_overlap, refusal_of, meet}
use Rattle.sbpf_memory.proofs.Reading.{read-some, read-nothing}
use Rattle.sbpf_memory.proofs.Writing.{write_to-refused, write-some, write-nothing}

here_length : (m : Ranges) (place : Place) (len : ℕ) → place.at + len ≤ length (range_bytes m place.region) → length (bytes_of_place m place len) ≡ len
here_length m place len inside = length-take-le len (drop place.at (range_bytes m place.region)) (omega (arith, length-drop {A = ℕ}))

written_free : (m : Ranges) (addr : ℕ) (bytes : List ℕ) (at : ℕ) (region : Region) → region ≢ Program → with_bytes_in m addr bytes at region ≡ Ok (written_in m bytes at region)
written_free m addr bytes at Program free = absurd (free refl)
written_free m addr bytes at Stack free = refl
written_free m addr bytes at Heap free = refl
written_free m addr bytes at Input free = refl

-- a write at its place
write_there : (m : Ranges) (addr len : ℕ) (bytes : List ℕ) (target : Place) → 1 ≤ len → length bytes ≡ len
    → IsTarget m addr len target → write_to m addr bytes ≡ Ok (written_in m bytes target.at target.region)
write_there m addr len bytes target some size is =
    write-some m addr bytes (Some target) (omega (arith, size)) (ap (place_of m addr) size ∙ is.found) ∙ written_free m addr bytes target.at target.region is.free

-- a copy of no bytes
pub copy-nothing : (m : Ranges) (to from : ℕ) (apart : Bool) → copy_to m to from 0 apart ≡ Ok m
unfolding copy_to
copy-nothing m to from true = ap (copy_of m to false) (read-nothing m from) ∙ ap (or_overlap false) (write-nothing m to)
copy-nothing m to from false = ap (copy_of m to false) (read-nothing m from) ∙ ap (or_overlap false) (write-nothing m to)

-- the read is refused
pub copy-read : (m : Ranges) (to from len : ℕ) (apart : Bool) → 1 ≤ len → place_of m from len ≡ None → copy_to m to from len apart ≡ Err (refusal_of (violation_of from len false))
unfolding copy_to
copy-read m to from len apart some none = ap (copy_of m to (apart && nat_lt 0 len && meet to from len)) (read-some m from len None some none)

read_here : (m : Ranges) (from len : ℕ) (source : Place) → 1 ≤ len → place_of m from len ≡ Some source → read_from m from len ≡ Ok (bytes_of_place m source len)
read_here m from len source some found = read-some m from len (Some source) some found

-- the write is refused
pub copy-write : (m : Ranges) (to from len : ℕ) (apart : Bool) (source : Place) → 1 ≤ len
    → place_of m from len ≡ Some source → source.at + len ≤ length (range_bytes m source.region)
    → write_refusal m to len ≡ Some (violation_of to len true)
    → copy_to m to from len apart ≡ Err (refusal_of (violation_of to len true))
unfolding copy_to
copy-write m to from len apart source some found inside refusal =
    let overlap : Bool = apart && nat_lt 0 len && meet to from len in
    let bytes : List ℕ = bytes_of_place m source len in
    ap (copy_of m to overlap) (read_here m from len source some found) ∙
    ap (or_overlap overlap) (write_to-refused m to bytes (violation_of to len true) (ap (write_refusal m to) (here_length m source len inside) ∙ refusal))

-- the ranges meet
pub copy-meets : (m : Ranges) (to from len : ℕ) (apart : Bool) (source target : Place) → 1 ≤ len
    → place_of m from len ≡ Some source → source.at + len ≤ length (range_bytes m source.region)
    → IsTarget m to len target → (apart && nat_lt 0 len && meet to from len) ≡ true
    → copy_to m to from len apart ≡ Err Overlap
unfolding copy_to
copy-meets m to from len apart source target some found inside is meets =
    ap (λ b. copy_of m to b (read_from m from len)) meets ∙
    ap (copy_of m to true) (read_here m from len source some found) ∙
    ap (or_overlap true) (write_there m to len (bytes_of_place m source len) target some (here_length m source len inside) is)

-- nothing is refused
pub copy-done : (m : Ranges) (to from len : ℕ) (apart : Bool) (source target : Place) → 1 ≤ len
    → place_of m from len ≡ Some source → source.at + len ≤ length (range_bytes m source.region)
    → IsTarget m to len target → (apart && nat_lt 0 len && meet to from len) ≡ false
    → copy_to m to from len apart ≡ Ok (copied_in m target source len)
unfolding copy_to
copy-done m to from len apart source target some found inside is stands =
    ap (λ b. copy_of m to b (read_from m from len)) stands ∙
    ap (copy_of m to false) (read_here m from len source some found) ∙
    ap (or_overlap false) (write_there m to len (bytes_of_place m source len) target some (here_length m source len inside) is)
