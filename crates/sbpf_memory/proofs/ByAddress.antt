-- A memory as a map from addresses to bytes.
use Rattle.std.proofs.Common.{◌≡◌, ℕ, suc, zero, ◌+◌, ◌-◌, ◌*◌, ◌/◌, ◌%◌, ◌≤◌, ◌<◌, ◌⊎◌, inl, inr, Bool, true, false, List, [], ◌∷◌, ◌++◌, length, take, drop, map, slice_range, slice_get, slice_index_or, Option, Some, None, Ok, IfOk, refl, sym, ap, ◌∙◌, subst, arith, length-take, length-drop}
use Rattle.std.specs.List.{range_with_len}
use Rattle.std.proofs.lemmas.Bool.Decides.{nat_tests}
use Rattle.std.proofs.lemmas.Grind.{elements}
use Rattle.std.proofs.lemmas.Option.{slice_get-get_or}
use Rattle.std.proofs.lemmas.List.{map-append}
use Rattle.spec_base.specs.Bytes.{with_bytes}
use Rattle.data_parts.proofs.PartLaws.{length_with}
use Rattle.sbpf_memory.specs.declared.place.Place.{Place}
use Rattle.sbpf_memory.specs.declared.place.Region.{Region}
use Rattle.sbpf_memory.specs.declared.place.Region.TheVariants.{Program, Stack, Heap, Input}
use Rattle.sbpf_memory.specs.Memory.{Ranges, IsMemory, place_of, range_bytes, bytes_at, read_from, frame_count, frame_size, frame_start, frame_range, frame_ranges, heap_range, input_range, stack_start, program_start, heap_start, input_start, ranges, bounds_of, byte_of, byte_at, with_stack, with_heap, with_input_bytes, with_bytes_in, with_bytes_at, write_to, frame_step}
use Rattle.sbpf_memory.proofs.Places.{place-stack}
use Rattle.sbpf_memory.proofs.Addresses.{address_in, RoomIn, StandsAt, stands-from_place, place-from_stands}
use Rattle.sbpf_memory.proofs.Keeping.{Kept, kept-place, nothing-kept, write-kept}
use Rattle.sbpf_memory.proofs.Reading.{read-some, read-length, room-fits}
use Rattle.sbpf_memory.proofs.Writing.{write-some}

-- the byte at a place
abbrev byte_in : Ranges → Option Place → Option ℕ
byte_in m None = None
byte_in m (Some place) = slice_get (range_bytes m place.region) place.at

head-get : (xs : List ℕ) (at : ℕ) → byte_of (Ok (take 1 (drop at xs))) ≡ slice_get xs at
head-get [] zero = refl
head-get [] (suc at) = refl
head-get (x ∷ xs) zero = refl
head-get (x ∷ xs) (suc at) = head-get xs at

byte_of_place : (m : Ranges) (addr : ℕ) (p : Option Place) → byte_of (bytes_at m addr 1 p) ≡ byte_in m p
byte_of_place m addr None = refl
byte_of_place m addr (Some place) = head-get (range_bytes m place.region) place.at

byte_at-place : (m : Ranges) (addr : ℕ) (p : Option Place) → place_of m addr 1 ≡ p → byte_at m addr ≡ byte_in m p
unfolding byte_at
byte_at-place m addr p found = ap byte_of (read-some m addr 1 p (omega arith) found) ∙ byte_of_place m addr p

byte_at-stands : (m : Ranges) (addr : ℕ) (place : Place) → IsMemory m → StandsAt m addr 1 place → byte_at m addr ≡ slice_get (range_bytes m place.region) place.at
byte_at-stands m addr place is_memory stands = byte_at-place m addr (Some place) (place-from_stands m addr 1 place is_memory (omega arith) stands)

-- a part of an access stands beside its first byte
pub inner-address : (m : Ranges) (at len i : ℕ) (region : Region) → RoomIn m len at region → i < len → address_in at region + i ≡ address_in (at + i) region
inner-address m at len i Program room below = omega arith
inner-address m at len i Stack room below =
    let frame : (at + i) / frame_size ≡ at / frame_size = omega (arith, room.0) in
    let rest : (at + i) % frame_size ≡ at % frame_size + i = omega (arith, room.0) in
    omega arith
inner-address m at len i Heap room below = omega arith
inner-address m at len i Input room below = omega arith

inner-room : (m : Ranges) (at len i count : ℕ) (region : Region) → RoomIn m len at region → 1 ≤ count → i + count ≤ len → RoomIn m count (at + i) region
inner-room m at len i count Program room some fits = omega arith
inner-room m at len i count Stack room some fits = (omega (arith, room.0, room.1), omega (arith, room.0, room.1))
inner-room m at len i count Heap room some fits = omega arith
inner-room m at len i count Input room some fits = omega arith

abbrev pub further : Place → ℕ → Place
further place i = record { region = place.region; at = place.at + i }

pub inner-stands : (m : Ranges) (addr len i count : ℕ) (place : Place) → StandsAt m addr len place → 1 ≤ count → i + count ≤ len → StandsAt m (addr + i) count (further place i)
inner-stands m addr len i count place stands some fits = record {
  address = ap (λ a. a + i) stands.address ∙ inner-address m place.at len i place.region stands.room (omega arith);
  room = inner-room m place.at len i count place.region stands.room some fits;
}

part-get : (xs : List ℕ) (at len i : ℕ) → at + len ≤ length xs → i < len → slice_get (take len (drop at xs)) i ≡ slice_get xs (at + i)
part-get xs at len i fits below =
    let size : length (take len (drop at xs)) ≡ len = simp (length-take, length-drop) (omega arith) in
    let same : slice_index_or (take len (drop at xs)) i 0 ≡ slice_index_or xs (at + i) 0 = grind (arith, elements) in
    slice_get-get_or (take len (drop at xs)) i 0 (omega arith) ∙ ap Some same ∙ sym (slice_get-get_or xs (at + i) 0 (omega arith))

read_at : (m : Ranges) (addr len : ℕ) (bytes : List ℕ) (i : ℕ) (p : Option Place) → IsMemory m → i < len
    → place_of m addr len ≡ p → bytes_at m addr len p ≡ Ok bytes → byte_at m (addr + i) ≡ slice_get bytes i
read_at m addr len bytes i None is_memory below found read = cc
read_at m addr len bytes i (Some place) is_memory below found read =
    let stands = stands-from_place m addr len place (omega arith) found in
    let same : take len (drop place.at (range_bytes m place.region)) ≡ bytes = cc in
    byte_at-stands m (addr + i) (further place i) is_memory (inner-stands m addr len i 1 place stands (omega arith) (omega arith))
    ∙ sym (part-get (range_bytes m place.region) place.at len i (room-fits m len place.at place.region is_memory.stack stands.room) below)
    ∙ ap (λ xs. slice_get xs i) same

pub read-bytes : (m : Ranges) (addr len : ℕ) (bytes : List ℕ) (i : ℕ) → IsMemory m → read_from m addr len ≡ Ok bytes → i < len → byte_at m (addr + i) ≡ slice_get bytes i
read-bytes m addr len bytes i is_memory read below =
    read_at m addr len bytes i (place_of m addr len) is_memory below refl (sym (read-some m addr len (place_of m addr len) (omega arith) refl) ∙ read)

pub read-count : (m : Ranges) (addr len : ℕ) (bytes : List ℕ) → IsMemory m → read_from m addr len ≡ Ok bytes → length bytes ≡ len
read-count m addr len bytes is_memory read = rw read at (read-length m addr len is_memory.stack)

-- what a write changes
stack_in : (m : Ranges) (addr : ℕ) (bytes : List ℕ) (at : ℕ) (region : Region)
    → at + length bytes ≤ length (range_bytes m region)
    → IfOk (with_bytes_in m addr bytes at region) (λ after. length after.stack ≡ length m.stack)
stack_in m addr bytes at Program fits = tt
stack_in m addr bytes at Stack fits = length_with m.stack bytes at fits
stack_in m addr bytes at Heap fits = refl
stack_in m addr bytes at Input fits = refl

here_in : (m : Ranges) (addr : ℕ) (bytes : List ℕ) (at : ℕ) (region : Region)
    → IfOk (with_bytes_in m addr bytes at region)
    (λ after. range_bytes after region ≡ with_bytes (range_bytes m region) at bytes)
here_in m addr bytes at Program = tt
here_in m addr bytes at Stack = refl
here_in m addr bytes at Heap = refl
here_in m addr bytes at Input = refl

-- another range, which a write leaves as it was
abbrev Others : Ranges → Ranges → Region → Type 0
Others m after region = (other : Region) → (other ≡ region) ⊎ (range_bytes after other ≡ range_bytes m other)

others_in : (m : Ranges) (addr : ℕ) (bytes : List ℕ) (at : ℕ) (region : Region) → IfOk (with_bytes_in m addr bytes at region) (λ after. Others m after region)
others_in m addr bytes at Program = tt
others_in m addr bytes at Stack = λ other. elim other as
    (λ o. (o ≡ Stack) ⊎ (range_bytes (with_stack m (with_bytes m.stack at bytes)) o ≡ range_bytes m o))
    [ Program ↦ inr refl | Stack ↦ inl refl | Heap ↦ inr refl | Input ↦ inr refl ]
others_in m addr bytes at Heap = λ other. elim other as
    (λ o. (o ≡ Heap) ⊎ (range_bytes (with_heap m (with_bytes m.heap at bytes)) o ≡ range_bytes m o))
    [ Program ↦ inr refl | Stack ↦ inr refl | Heap ↦ inl refl | Input ↦ inr refl ]
others_in m addr bytes at Input = λ other. elim other as
    (λ o. (o ≡ Input) ⊎ (range_bytes (with_input_bytes m at bytes) o ≡ range_bytes m o))
    [ Program ↦ inr refl | Stack ↦ inr refl | Heap ↦ inr refl | Input ↦ inl refl ]

pub record Written (m after : Ranges) (addr : ℕ) (bytes : List ℕ) : Type 0 where
  pub place : Place
  pub stands : StandsAt m addr (length bytes) place
  pub stack : length after.stack ≡ length m.stack
  pub here : range_bytes after place.region ≡ with_bytes (range_bytes m place.region) place.at bytes
  pub others : Others m after place.region

written_at : (m after : Ranges) (addr : ℕ) (bytes : List ℕ) (p : Option Place) → IsMemory m → 1 ≤ length bytes
    → place_of m addr (length bytes) ≡ p → with_bytes_at m addr bytes p ≡ Ok after → Written m after addr bytes
written_at m after addr bytes None is_memory some found write = cc
written_at m after addr bytes (Some place) is_memory some found write =
    let stands = stands-from_place m addr (length bytes) place some found in
    let fits = room-fits m (length bytes) place.at place.region is_memory.stack stands.room in
    record {
      place = place;
      stands = stands;
      stack = rw write at (stack_in m addr bytes place.at place.region fits);
      here = rw write at (here_in m addr bytes place.at place.region);
      others = rw write at (others_in m addr bytes place.at place.region);
    }

written : (m after : Ranges) (addr : ℕ) (bytes : List ℕ) → IsMemory m → 1 ≤ length bytes → write_to m addr bytes ≡ Ok after → Written m after addr bytes
written m after addr bytes is_memory some write =
    written_at m after addr bytes (place_of m addr (length bytes)) is_memory some refl (sym (write-some m addr bytes (place_of m addr (length bytes)) some refl) ∙ write)

set-within : (xs : List ℕ) (at : ℕ) (bytes : List ℕ) (i : ℕ) → at + length bytes ≤ length xs → i < length bytes → slice_get (with_bytes xs at bytes) (at + i) ≡ slice_get bytes i
set-within xs at bytes i fits below =
    let size = length_with xs bytes at fits in
    let same : slice_index_or (with_bytes xs at bytes) (at + i) 0 ≡ slice_index_or bytes i 0 = grind (arith, elements) in
    slice_get-get_or (with_bytes xs at bytes) (at + i) 0 (omega arith) ∙ ap Some same ∙ sym (slice_get-get_or bytes i 0 below)

set-apart : (xs : List ℕ) (at : ℕ) (bytes : List ℕ) (k : ℕ) → at + length bytes ≤ length xs → k < length xs → (k < at) ⊎ (at + length bytes ≤ k) → slice_get (with_bytes xs at bytes) k ≡ slice_get xs k
set-apart xs at bytes k fits below apart =
    let size = length_with xs bytes at fits in
    let same : slice_index_or (with_bytes xs at bytes) k 0 ≡ slice_index_or xs k 0 = grind (arith, elements) in
    slice_get-get_or (with_bytes xs at bytes) k 0 (omega arith) ∙ ap Some same ∙ sym (slice_get-get_or xs k 0 below)

pub write-bytes : (m after : Ranges) (addr : ℕ) (bytes : List ℕ) (i : ℕ) → IsMemory m → write_to m addr bytes ≡ Ok after → i < length bytes → byte_at after (addr + i) ≡ slice_get bytes i
write-bytes m after addr bytes i is_memory write below =
    let w = written m after addr bytes is_memory (omega arith) write in
    let inner = inner-stands m addr (length bytes) i 1 w.place w.stands (omega arith) (omega arith) in
    let found = place-from_stands m (addr + i) 1 (further w.place i) is_memory (omega arith) inner in
    byte_at-place after (addr + i) (Some (further w.place i)) (kept-place m after (addr + i) 1 (write-kept m after addr bytes write) ∙ found)
    ∙ ap (λ xs. slice_get xs (w.place.at + i)) w.here
    ∙ set-within (range_bytes m w.place.region) w.place.at bytes i (room-fits m (length bytes) w.place.at w.place.region is_memory.stack w.stands.room) below

-- addresses apart have places apart
apart_in : (m : Ranges) (at len other : ℕ) (region : Region) → RoomIn m len at region → RoomIn m 1 other region
    → (address_in other region < address_in at region) ⊎ (address_in at region + len ≤ address_in other region)
    → (other < at) ⊎ (at + len ≤ other)
apart_in m at len other Program room single apart = elim apart [ inl before ↦ inl (omega arith) | inr after ↦ inr (omega arith) ]
apart_in m at len other Stack room single apart = elim apart [ inl before ↦ inl (omega (arith, room.0, single.0)) | inr after ↦ inr (omega (arith, room.0, single.0)) ]
apart_in m at len other Heap room single apart = elim apart [ inl before ↦ inl (omega arith) | inr after ↦ inr (omega arith) ]
apart_in m at len other Input room single apart = elim apart [ inl before ↦ inl (omega arith) | inr after ↦ inr (omega arith) ]

abbrev Apart : ℕ → ℕ → Region → ℕ → Region → Type 0
Apart at len region other other_region = (address_in other other_region < address_in at region) ⊎ (address_in at region + len ≤ address_in other other_region)

kept_region : (m after : Ranges) (at : ℕ) (bytes : List ℕ) (other : ℕ) (region : Region) → IsMemory m → RoomIn m (length bytes) at region
    → range_bytes after region ≡ with_bytes (range_bytes m region) at bytes → RoomIn m 1 other region → Apart at (length bytes) region other region
    → slice_get (range_bytes after region) other ≡ slice_get (range_bytes m region) other
kept_region m after at bytes other region is_memory room here single apart =
    let fits = room-fits m (length bytes) at region is_memory.stack room in
    let within = room-fits m 1 other region is_memory.stack single in
    ap (λ xs. slice_get xs other) here ∙ set-apart (range_bytes m region) at bytes other fits (omega arith) (apart_in m at (length bytes) other region room single apart)

kept_there : (m after : Ranges) (addr : ℕ) (bytes : List ℕ) (other : ℕ) (q : Place) → IsMemory m
    → (w : Written m after addr bytes) → StandsAt m other 1 q → (other < addr) ⊎ (addr + length bytes ≤ other)
    → slice_get (range_bytes after q.region) q.at ≡ slice_get (range_bytes m q.region) q.at
kept_there m after addr bytes other q is_memory w stands apart =
    let at = w.place.at in
    let region = w.place.region in
    let P : Region → Type 0 = λ r. RoomIn m 1 q.at r → Apart at (length bytes) region q.at r → slice_get (range_bytes after r) q.at ≡ slice_get (range_bytes m r) q.at in
    let First : ℕ → Type 0 = λ a. (other < a) ⊎ (a + length bytes ≤ other) in
    let Second : ℕ → Type 0 = λ o. (o < address_in at region) ⊎ (address_in at region + length bytes ≤ o) in
    elim (w.others q.region) [
      | inl same ↦ subst P (sym same) (kept_region m after at bytes q.at region is_memory w.stands.room w.here) stands.room (subst Second stands.address (subst First w.stands.address apart))
      | inr same ↦ ap (λ xs. slice_get xs q.at) same
    ]

kept_at : (m after : Ranges) (addr : ℕ) (bytes : List ℕ) (other : ℕ) (p : Option Place) → IsMemory m
    → Written m after addr bytes → place_of m other 1 ≡ p → (other < addr) ⊎ (addr + length bytes ≤ other)
    → byte_in after p ≡ byte_in m p
kept_at m after addr bytes other None is_memory w found apart = refl
kept_at m after addr bytes other (Some q) is_memory w found apart =
    kept_there m after addr bytes other q is_memory w (stands-from_place m other 1 q (omega arith) found) apart

kept_some : (m after : Ranges) (addr : ℕ) (bytes : List ℕ) (other : ℕ) → IsMemory m → Kept m after
    → Written m after addr bytes → (other < addr) ⊎ (addr + length bytes ≤ other)
    → byte_at after other ≡ byte_at m other
kept_some m after addr bytes other is_memory kept w apart =
    byte_at-place after other (place_of m other 1) (kept-place m after other 1 kept)
    ∙ kept_at m after addr bytes other (place_of m other 1) is_memory w refl apart
    ∙ sym (byte_at-place m other (place_of m other 1) refl)

pub write-keeps : (m after : Ranges) (addr : ℕ) (bytes : List ℕ) (other : ℕ) → IsMemory m
    → write_to m addr bytes ≡ Ok after → (other < addr) ⊎ (addr + length bytes ≤ other)
    → byte_at after other ≡ byte_at m other
write-keeps m after addr [] other is_memory write apart = ap (λ x. byte_at x other) (sym (nothing-kept m after addr write))
write-keeps m after addr (b ∷ bs) other is_memory write apart = kept_some m after addr (b ∷ bs) other is_memory
    (write-kept m after addr (b ∷ bs) write) (written m after addr (b ∷ bs) is_memory (omega arith) write) apart

still_memory : (m after : Ranges) → Kept m after → length after.stack ≡ length m.stack → IsMemory m → IsMemory after
still_memory m after kept stack is_memory = record {
  program = omega (arith, ap length kept.program, is_memory.program);
  stack = stack ∙ is_memory.stack;
  heap = omega (arith, kept.heap, is_memory.heap);
  input = omega (arith, kept.input, is_memory.input);
}

pub write-memory : (m after : Ranges) (addr : ℕ) (bytes : List ℕ) → IsMemory m → write_to m addr bytes ≡ Ok after → IsMemory after
write-memory m after addr [] is_memory write = subst (λ x. IsMemory x) (nothing-kept m after addr write) is_memory
write-memory m after addr (b ∷ bs) is_memory write = still_memory m after (write-kept m after addr (b ∷ bs) write) (written m after addr (b ∷ bs) is_memory (omega arith) write).stack is_memory

-- ranges of the same sizes have the same bounds
part_size : (xs ys : List ℕ) (from to : ℕ) → length xs ≡ length ys → length (slice_range xs from to) ≡ length (slice_range ys from to)
part_size xs ys from to same = simp (length-take, length-drop) (omega arith)

frames-bounds : (xs ys frames : List ℕ) → length xs ≡ length ys → map bounds_of (map (frame_range xs) frames) ≡ map bounds_of (map (frame_range ys) frames)
frames-bounds xs ys [] same = refl
frames-bounds xs ys (frame ∷ frames) same =
    let size = part_size xs ys (frame_size * frame) (frame_size * frame + frame_size) same in
    ap (λ n. (frame_start frame, n, true) ∷ map bounds_of (map (frame_range xs) frames)) size
    ∙ ap (λ bounds. (frame_start frame, length (slice_range ys (frame_size * frame) (frame_size * frame + frame_size)), true) ∷ bounds) (frames-bounds xs ys frames same)

abbrev bounds_list : ℕ → List (ℕ × ℕ × Bool) → ℕ → ℕ → List (ℕ × ℕ × Bool)
bounds_list program frames heap input = (program_start, program, false) ∷ (frames ++ ((heap_start, heap, true) ∷ (input_start, input, true) ∷ []))

abbrev frames_in : Ranges → List (ℕ × ℕ × Bool)
frames_in m = map bounds_of (frame_ranges m)

bounds-by_size : (m : Ranges) → map bounds_of (ranges m) ≡ bounds_list (length m.program) (frames_in m) (length m.heap) (length m.input.bytes)
unfolding ranges
bounds-by_size m =
    ap (λ rest. (program_start, length m.program, false) ∷ rest) (map-append bounds_of (frame_ranges m) (heap_range m ∷ input_range m ∷ []))

kept-bounds : (m after : Ranges) → Kept m after → length after.stack ≡ length m.stack → map bounds_of (ranges after) ≡ map bounds_of (ranges m)
kept-bounds m after kept stack =
    bounds-by_size after
    ∙ ap (λ l. bounds_list (length l) (frames_in after) (length after.heap) (length after.input.bytes)) kept.program
    ∙ ap (λ fs. bounds_list (length m.program) fs (length after.heap) (length after.input.bytes)) (frames-bounds after.stack m.stack (range_with_len 0 frame_count) stack)
    ∙ ap (λ n. bounds_list (length m.program) (frames_in m) n (length after.input.bytes)) kept.heap
    ∙ ap (λ n. bounds_list (length m.program) (frames_in m) (length m.heap) n) kept.input
    ∙ sym (bounds-by_size m)

pub write-bounds : (m after : Ranges) (addr : ℕ) (bytes : List ℕ) → IsMemory m → write_to m addr bytes ≡ Ok after → map bounds_of (ranges after) ≡ map bounds_of (ranges m)
write-bounds m after addr [] is_memory write = ap (λ x. map bounds_of (ranges x)) (sym (nothing-kept m after addr write))
write-bounds m after addr (b ∷ bs) is_memory write = kept-bounds m after (write-kept m after addr (b ∷ bs) write) (written m after addr (b ∷ bs) is_memory (omega arith) write).stack

-- no byte stands between two frames
pub no-byte-in_gap : (m : Ranges) (frame at : ℕ) → IsMemory m → frame < frame_count → frame_size ≤ at → at < frame_step → byte_at m (frame_start frame + at) ≡ None
no-byte-in_gap m frame at is_memory below from to =
    let addr = frame_start frame + at in
    let whole : (addr - stack_start) / frame_step ≡ frame = omega arith in
    let rest : (addr - stack_start) % frame_step ≡ at = omega arith in
    let found = place-stack m addr 1 is_memory.program (omega arith) (omega arith) (omega arith) in
    byte_at-place m addr None (grind (arith, nat_tests))
