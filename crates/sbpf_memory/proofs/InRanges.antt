-- Places and the ranges that they lie in.
use Rattle.std.proofs.Common.{◌≡◌, ℕ, ◌+◌, ◌-◌, ◌*◌, ◌/◌, ◌%◌, ◌≤◌, ◌<◌, inl, inr, true, List, [], ◌∷◌, ◌++◌, length, take, drop, map, slice_range, Option, Some, None, Result, Ok, IsOk, refl, sym, ap, ◌∙◌, subst, arith, length-take, length-drop}
use Rattle.std.specs.List.{Contains, range_with_len}
use Rattle.std.proofs.lemmas.List.{drop-take, take-take, drop-drop}
use Rattle.std.proofs.lemmas.List.Elements.{Contains-append_left, Contains-append_right, Contains-append_cases, Contains-push, Contains-push_cases}
use Rattle.std.proofs.lemmas.List.FromFn.{length-map-range_with_len, get_or-map-range_with_len}
use Rattle.sbpf_memory.specs.declared.fault.AccessViolation.{AccessViolation}
use Rattle.sbpf_memory.specs.declared.place.Place.{Place}
use Rattle.sbpf_memory.specs.declared.place.Region.{Region}
use Rattle.sbpf_memory.specs.declared.place.Region.TheVariants.{Program, Stack, Heap, Input}
use Rattle.sbpf_memory.specs.Memory.{Ranges, IsMemory, place_of, range_bytes, bytes_at, read_from, frame_count, frame_size, frame_start, frame_range, program_start, heap_start, input_start, Range, program_range, frame_ranges, heap_range, input_range, ranges, LiesIn, Holds, ReadsIn, WritesIn, with_bytes_in, with_bytes_at, write_to}
use Rattle.sbpf_memory.proofs.Addresses.{address_in, RoomIn, StandsAt, stands-from_place, place-from_stands}
use Rattle.sbpf_memory.proofs.Reading.{read-some}
use Rattle.sbpf_memory.proofs.Writing.{write-some}

-- the range of a place
abbrev pub range_in : Ranges → ℕ → Region → Range
range_in m at Program = program_range m
range_in m at Stack = frame_range m.stack (at / frame_size)
range_in m at Heap = heap_range m
range_in m at Input = input_range m

-- the frames among the ranges
has_frame : (stack : List ℕ) (count frame : ℕ) → frame < count → Contains (map (frame_range stack) (range_with_len 0 count)) (frame_range stack frame)
has_frame stack count frame below =
    (frame, rw (length-map-range_with_len (frame_range stack) 0 count) below, get_or-map-range_with_len (frame_range stack) 0 count frame frame (frame_range stack frame) below (omega arith))

is_frame : (stack : List ℕ) (count : ℕ) (r : Range) → Contains (map (frame_range stack) (range_with_len 0 count)) r → (frame : ℕ) × (frame < count) × (frame_range stack frame ≡ r)
is_frame stack count r has =
    let below : has.0 < count = rw (length-map-range_with_len (frame_range stack) 0 count) at has.1 in
    (has.0, below, sym (get_or-map-range_with_len (frame_range stack) 0 count has.0 has.0 r below (omega arith)) ∙ has.2)

is_alone : (one r : Range) → Contains (one ∷ []) r → one ≡ r
is_alone one r has = elim (Contains-push_cases [] one r has) [ inl none ↦ absurd (omega (arith, none.1)) | inr same ↦ same ]

-- the range of a place is one of the ranges
has_range : (m : Ranges) (at len : ℕ) (region : Region) → RoomIn m len at region → Contains (ranges m) (range_in m at region)
unfolding ranges
has_range m at len Program room =
    Contains-append_left ((program_range m ∷ []) ++ frame_ranges m) (heap_range m ∷ input_range m ∷ []) (program_range m)
    (Contains-append_left (program_range m ∷ []) (frame_ranges m) (program_range m) (Contains-push [] (program_range m)))
has_range m at len Stack room =
    let this = frame_range m.stack (at / frame_size) in
    Contains-append_left ((program_range m ∷ []) ++ frame_ranges m) (heap_range m ∷ input_range m ∷ []) this
    (Contains-append_right (program_range m ∷ []) (frame_ranges m) this (has_frame m.stack frame_count (at / frame_size) (omega (arith, room.1))))
has_range m at len Heap room =
    Contains-append_right ((program_range m ∷ []) ++ frame_ranges m) (heap_range m ∷ input_range m ∷ []) (heap_range m)
    (Contains-append_left (heap_range m ∷ []) (input_range m ∷ []) (heap_range m) (Contains-push [] (heap_range m)))
has_range m at len Input room =
    Contains-append_right ((program_range m ∷ []) ++ frame_ranges m) (heap_range m ∷ input_range m ∷ []) (input_range m) (Contains-push (heap_range m ∷ []) (input_range m))

-- the bytes of an access within a part of a list
part-bytes : (xs : List ℕ) (from to at len : ℕ) → from + at + len ≤ to → take len (drop at (slice_range xs from to)) ≡ take len (drop (from + at) xs)
part-bytes xs from to at len fits =
    let size : to - from ≡ at + (to - from - at) = omega arith in
    let short : len ≤ to - from - at = omega arith in
    ap (λ n. take len (drop at (take n (drop from xs)))) size
    ∙ ap (take len) (drop-take at (to - from - at) (drop from xs))
    ∙ take-take len (to - from - at) (drop at (drop from xs)) short
    ∙ ap (take len) (drop-drop at from xs)

part-length : (xs : List ℕ) (from to : ℕ) → from ≤ to → to ≤ length xs → length (slice_range xs from to) ≡ to - from
part-length xs from to order fits = simp (length-take, length-drop) (omega arith)

frame-length : (m : Ranges) (frame : ℕ) → IsMemory m → frame < frame_count → length (slice_range m.stack (frame_size * frame) (frame_size * frame + frame_size)) ≡ frame_size
frame-length m frame is_memory below =
    part-length m.stack (frame_size * frame) (frame_size * frame + frame_size) (omega arith) (omega (arith, is_memory.stack)) ∙ omega arith

-- an access at a place lies in the place's range
lies_in_range : (m : Ranges) (at len : ℕ) (region : Region) → IsMemory m → RoomIn m len at region → LiesIn (range_in m at region) (address_in at region) len
lies_in_range m at len Program is_memory room = (omega arith, omega arith)
lies_in_range m at len Stack is_memory room =
    let size = frame-length m (at / frame_size) is_memory (omega (arith, room.1)) in
    (omega arith, omega (arith, size, room.0))
lies_in_range m at len Heap is_memory room = (omega arith, omega arith)
lies_in_range m at len Input is_memory room = (omega arith, omega arith)

-- and the bytes of the place stand there
same_bytes : (m : Ranges) (at len : ℕ) (region : Region) → RoomIn m len at region
    → take len (drop (address_in at region - (range_in m at region).start) (range_in m at region).bytes) ≡ take len (drop at (range_bytes m region))
same_bytes m at len Program room =
    let same : program_start + at - program_start ≡ at = omega arith in ap (λ n. take len (drop n m.program)) same
same_bytes m at len Stack room =
    let inside : address_in at Stack - frame_start (at / frame_size) ≡ at % frame_size = omega arith in
    let whole : frame_size * (at / frame_size) + at % frame_size ≡ at = omega arith in
    ap (λ n. take len (drop n (slice_range m.stack (frame_size * (at / frame_size)) (frame_size * (at / frame_size) + frame_size)))) inside
    ∙ part-bytes m.stack (frame_size * (at / frame_size)) (frame_size * (at / frame_size) + frame_size) (at % frame_size) len (omega (arith, room.0))
    ∙ ap (λ n. take len (drop n m.stack)) whole
same_bytes m at len Heap room =
    let same : heap_start + at - heap_start ≡ at = omega arith in ap (λ n. take len (drop n m.heap)) same
same_bytes m at len Input room =
    let same : input_start + at - input_start ≡ at = omega arith in ap (λ n. take len (drop n m.input.bytes)) same

pub holds-from_stands : (m : Ranges) (addr len : ℕ) (place : Place) → IsMemory m → StandsAt m addr len place → Holds m addr len (range_in m place.at place.region)
holds-from_stands m addr len place is_memory stands =
    let P : ℕ → Type 0 = λ a. LiesIn (range_in m place.at place.region) a len in
    (has_range m place.at len place.region stands.room, subst P (sym stands.address) (lies_in_range m place.at len place.region is_memory stands.room))

pub bytes-from_stands : (m : Ranges) (addr len : ℕ) (place : Place) → StandsAt m addr len place
    → take len (drop (addr - (range_in m place.at place.region).start) (range_in m place.at place.region).bytes) ≡ take len (drop place.at (range_bytes m place.region))
bytes-from_stands m addr len place stands =
    ap (λ a. take len (drop (a - (range_in m place.at place.region).start) (range_in m place.at place.region).bytes)) stands.address ∙ same_bytes m place.at len place.region stands.room

-- and each access that lies in a range has a place of it
abbrev pub HasPlace : Ranges → ℕ → ℕ → Range → Type 0
HasPlace m addr len r = (place : Place) × StandsAt m addr len place × (range_in m place.at place.region ≡ r)

in_program : (m : Ranges) (addr len : ℕ) → LiesIn (program_range m) addr len → HasPlace m addr len (program_range m)
in_program m addr len lies =
    (record { region = Program; at = addr - program_start }, record { address = omega (arith, lies.0); room = omega (arith, lies.0, lies.1) }, refl)

in_heap : (m : Ranges) (addr len : ℕ) → LiesIn (heap_range m) addr len → HasPlace m addr len (heap_range m)
in_heap m addr len lies =
    (record { region = Heap; at = addr - heap_start }, record { address = omega (arith, lies.0); room = omega (arith, lies.0, lies.1) }, refl)

in_input : (m : Ranges) (addr len : ℕ) → LiesIn (input_range m) addr len → HasPlace m addr len (input_range m)
in_input m addr len lies =
    (record { region = Input; at = addr - input_start }, record { address = omega (arith, lies.0); room = omega (arith, lies.0, lies.1) }, refl)

in_frame : (m : Ranges) (addr len frame : ℕ) → IsMemory m → 1 ≤ len → frame < frame_count → LiesIn (frame_range m.stack frame) addr len → HasPlace m addr len (frame_range m.stack frame)
in_frame m addr len frame is_memory some below lies =
    let at = frame_size * frame + (addr - frame_start frame) in
    let size = frame-length m frame is_memory below in
    let inside : addr - frame_start frame + len ≤ frame_size = omega (arith, size, lies.0, lies.1) in
    let whole : at / frame_size ≡ frame = omega arith in
    let rest : at % frame_size ≡ addr - frame_start frame = omega arith in
    (record { region = Stack; at = at }, record { address = omega (arith, lies.0); room = (omega arith, omega arith) }, ap (frame_range m.stack) whole)

pub place-from_holds : (m : Ranges) (addr len : ℕ) (r : Range) → IsMemory m → 1 ≤ len → Holds m addr len r → HasPlace m addr len r
unfolding ranges
place-from_holds m addr len r is_memory some holds =
    let P : Range → Type 0 = λ x. LiesIn x addr len → HasPlace m addr len x in
    elim (Contains-append_cases ((program_range m ∷ []) ++ frame_ranges m) (heap_range m ∷ input_range m ∷ []) r holds.0) [
      | inl front ↦ elim (Contains-append_cases (program_range m ∷ []) (frame_ranges m) r front) [
        | inl has ↦ subst P (is_alone (program_range m) r has) (in_program m addr len) holds.1
        | inr has ↦ let w = is_frame m.stack frame_count r has in subst P w.2 (in_frame m addr len w.0 is_memory some w.1) holds.1
      ]
      | inr back ↦ elim (Contains-append_cases (heap_range m ∷ []) (input_range m ∷ []) r back) [
        | inl has ↦ subst P (is_alone (heap_range m) r has) (in_heap m addr len) holds.1
        | inr has ↦ subst P (is_alone (input_range m) r has) (in_input m addr len) holds.1
      ]
    ]

-- the range of an access is the only one
pub one-range : (m : Ranges) (addr len : ℕ) (r s : Range) → IsMemory m → 1 ≤ len → Holds m addr len r → Holds m addr len s → r ≡ s
one-range m addr len r s is_memory some first second =
    let p = place-from_holds m addr len r is_memory some first in
    let q = place-from_holds m addr len s is_memory some second in
    let here = place-from_stands m addr len p.0 is_memory some p.1 in
    let there = place-from_stands m addr len q.0 is_memory some q.1 in
    let same : p.0 ≡ q.0 = cc (here, there) in
    sym p.2 ∙ ap (λ (x : Place). range_in m x.at x.region) same ∙ q.2

reads_at : (m : Ranges) (addr len : ℕ) (bytes : List ℕ) (p : Option Place) → IsMemory m → 1 ≤ len → place_of m addr len ≡ p → bytes_at m addr len p ≡ Ok bytes → ReadsIn m addr len bytes
reads_at m addr len bytes None is_memory some found read = cc
reads_at m addr len bytes (Some place) is_memory some found read =
    let stands = stands-from_place m addr len place some found in
    let same : take len (drop place.at (range_bytes m place.region)) ≡ bytes = cc in
    (range_in m place.at place.region, holds-from_stands m addr len place is_memory stands, sym (bytes-from_stands m addr len place stands ∙ same))

pub reads-in_range : (m : Ranges) (addr len : ℕ) (bytes : List ℕ) → IsMemory m → 1 ≤ len → read_from m addr len ≡ Ok bytes → ReadsIn m addr len bytes
reads-in_range m addr len bytes is_memory some read =
    reads_at m addr len bytes (place_of m addr len) is_memory some refl (sym (read-some m addr len (place_of m addr len) some refl) ∙ read)

pub range-reads : (m : Ranges) (addr len : ℕ) (bytes : List ℕ) → IsMemory m → 1 ≤ len → ReadsIn m addr len bytes → read_from m addr len ≡ Ok bytes
range-reads m addr len bytes is_memory some reads =
    let p = place-from_holds m addr len reads.0 is_memory some reads.1 in
    let found = place-from_stands m addr len p.0 is_memory some p.1 in
    let bytes_of : Range → List ℕ = λ r. take len (drop (addr - r.start) r.bytes) in
    read-some m addr len (Some p.0) some found ∙ ap Ok (sym (bytes-from_stands m addr len p.0 p.1) ∙ ap bytes_of p.2 ∙ sym reads.2)

writable_in : (m : Ranges) (addr : ℕ) (bytes : List ℕ) (at : ℕ) (region : Region) → IsOk (with_bytes_in m addr bytes at region) → (range_in m at region).writable ≡ true
writable_in m addr bytes at Program ok = cc
writable_in m addr bytes at Stack ok = refl
writable_in m addr bytes at Heap ok = refl
writable_in m addr bytes at Input ok = refl

ok_in : (m : Ranges) (addr : ℕ) (bytes : List ℕ) (at : ℕ) (region : Region) → (range_in m at region).writable ≡ true → IsOk (with_bytes_in m addr bytes at region)
ok_in m addr bytes at Program writable = cc
ok_in m addr bytes at Stack writable = refl
ok_in m addr bytes at Heap writable = refl
ok_in m addr bytes at Input writable = refl

writes_at : (m : Ranges) (addr : ℕ) (bytes : List ℕ) (p : Option Place) → IsMemory m → 1 ≤ length bytes
    → place_of m addr (length bytes) ≡ p → IsOk (with_bytes_at m addr bytes p) → WritesIn m addr (length bytes)
writes_at m addr bytes None is_memory some found ok = cc
writes_at m addr bytes (Some place) is_memory some found ok =
    let stands = stands-from_place m addr (length bytes) place some found in
    (range_in m place.at place.region, holds-from_stands m addr (length bytes) place is_memory stands, writable_in m addr bytes place.at place.region ok)

pub writes-in_range : (m : Ranges) (addr : ℕ) (bytes : List ℕ) → IsMemory m → 1 ≤ length bytes → IsOk (write_to m addr bytes) → WritesIn m addr (length bytes)
writes-in_range m addr bytes is_memory some ok =
    writes_at m addr bytes (place_of m addr (length bytes)) is_memory some refl (rw (write-some m addr bytes (place_of m addr (length bytes)) some refl) at ok)

pub range-writes : (m : Ranges) (addr : ℕ) (bytes : List ℕ) → IsMemory m → 1 ≤ length bytes → WritesIn m addr (length bytes) → IsOk (write_to m addr bytes)
range-writes m addr bytes is_memory some writes =
    let p = place-from_holds m addr (length bytes) writes.0 is_memory some writes.1 in
    let found = place-from_stands m addr (length bytes) p.0 is_memory some p.1 in
    let P : Result Ranges AccessViolation → Type 0 = λ r. IsOk r in
    subst P (sym (write-some m addr bytes (Some p.0) some found))
    (ok_in m addr bytes (p.0).at (p.0).region (ap (λ (r : Range). r.writable) p.2 ∙ writes.2))
