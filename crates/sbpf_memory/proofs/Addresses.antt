-- Which address a place stands for, and which places there are.
use Rattle.std.proofs.Common.{◌≡◌, ℕ, ◌+◌, ◌-◌, ◌*◌, ◌/◌, ◌%◌, ◌≤◌, ◌<◌, ◌&&◌, Bool, true, false, length, Option, Some, None, if◌then◌else◌, nat_le, nat_lt, refl, ◌∙◌, ap, arith}
use Rattle.std.proofs.lemmas.Bool.Decides.{nat_tests}
use Rattle.sbpf_memory.specs.declared.place.Place.{Place}
use Rattle.sbpf_memory.specs.declared.place.Region.{Region}
use Rattle.sbpf_memory.specs.declared.place.Region.TheVariants.{Program, Stack, Heap, Input}
use Rattle.sbpf_memory.specs.Memory.{Ranges, IsMemory, lies_in, lies_in_frame, at_place, place_of, frame_of, frame_start, frame_size, program_start, stack_start, heap_start, input_start, frame_step, frame_count, stack_size}
use Rattle.sbpf_memory.proofs.Places.{place-program, place-stack, place-heap, place-input}

-- the address of a place
abbrev pub address_in : ℕ → Region → ℕ
address_in at Program = program_start + at
address_in at Stack = stack_start + frame_step * (at / frame_size) + at % frame_size
address_in at Heap = heap_start + at
address_in at Input = input_start + at

-- len bytes lie at a place
abbrev pub RoomIn : Ranges → ℕ → ℕ → Region → Type 0
RoomIn m len at Program = at + len ≤ length m.program
RoomIn m len at Stack = (at % frame_size + len ≤ frame_size) × (at < stack_size)
RoomIn m len at Heap = at + len ≤ length m.heap
RoomIn m len at Input = at + len ≤ length m.input.bytes

pub record StandsAt (m : Ranges) (addr len : ℕ) (place : Place) : Type 0 where
  pub address : addr ≡ address_in place.at place.region
  pub room : RoomIn m len place.at place.region

-- a place is found only where it stands
abbrev Found : Ranges → ℕ → ℕ → Option Place → Type 0
Found m addr len None = Unit {0}
Found m addr len (Some place) = StandsAt m addr len place

or_else : (m : Ranges) (addr len : ℕ) (b : Bool) (one other : Option Place) → (b ≡ true → Found m addr len one) → Found m addr len other → Found m addr len (if b then one else other)
or_else m addr len true one other first rest = first refl
or_else m addr len false one other first rest = rest

program-found : (m : Ranges) (addr len : ℕ) → lies_in program_start (length m.program) addr len ≡ true → Found m addr len (at_place Program (addr - program_start))
program-found m addr len lies = record { address = grind (arith, nat_tests); room = grind (arith, nat_tests) }

heap-found : (m : Ranges) (addr len : ℕ) → lies_in heap_start (length m.heap) addr len ≡ true → Found m addr len (at_place Heap (addr - heap_start))
heap-found m addr len lies = record { address = grind (arith, nat_tests); room = grind (arith, nat_tests) }

input-found : (m : Ranges) (addr len : ℕ) → lies_in input_start (length m.input.bytes) addr len ≡ true → Found m addr len (at_place Input (addr - input_start))
input-found m addr len lies = record { address = grind (arith, nat_tests); room = grind (arith, nat_tests) }

stack-found : (m : Ranges) (addr len : ℕ) → 1 ≤ len → lies_in_frame addr len ≡ true → Found m addr len (at_place Stack (frame_size * frame_of addr + (addr - frame_start (frame_of addr))))
stack-found m addr len some lies = record { address = grind (arith, nat_tests); room = (grind (arith, nat_tests), grind (arith, nat_tests)) }

place-found : (m : Ranges) (addr len : ℕ) → 1 ≤ len → Found m addr len (place_of m addr len)
unfolding place_of
place-found m addr len some =
    let frame = frame_of addr in
    let in_input = at_place Input (addr - input_start) in
    let in_heap = at_place Heap (addr - heap_start) in
    let in_frame = at_place Stack (frame_size * frame + (addr - frame_start frame)) in
    let in_program = at_place Program (addr - program_start) in
    let is_input = lies_in input_start (length m.input.bytes) addr len in
    let is_heap = lies_in heap_start (length m.heap) addr len in
    let is_frame = lies_in_frame addr len in
    let fourth = or_else m addr len is_input in_input None (input-found m addr len) tt in
    let third = or_else m addr len is_heap in_heap (if is_input then in_input else None) (heap-found m addr len) fourth in
    let second = or_else m addr len is_frame in_frame (if is_heap then in_heap else if is_input then in_input else None) (stack-found m addr len some) third in
    or_else m addr len (lies_in program_start (length m.program) addr len) in_program (if is_frame then in_frame else if is_heap then in_heap else if is_input then in_input else None)
    (program-found m addr len) second

pub stands-from_place : (m : Ranges) (addr len : ℕ) (place : Place) → 1 ≤ len → place_of m addr len ≡ Some place → StandsAt m addr len place
stands-from_place m addr len place some found = rw found at (place-found m addr len some)

-- and where it stands, it is found
some_place : (b : Bool) (one other : Option Place) → b ≡ true → one ≡ other → (if b then one else None) ≡ other
some_place true one other holds same = same
some_place false one other holds same = cc

at_program : (m : Ranges) (at len : ℕ) → IsMemory m → 1 ≤ len → at + len ≤ length m.program → place_of m (program_start + at) len ≡ at_place Program at
at_program m at len is_memory some room =
    let same : program_start + at - program_start ≡ at = omega arith in
    place-program m (program_start + at) len is_memory.program some (omega arith) (omega (arith, is_memory.program))
    ∙ some_place (nat_le (program_start + at - program_start + len) (length m.program)) (at_place Program (program_start + at - program_start)) (at_place Program at)
    (grind (arith, nat_tests)) (ap (at_place Program) same)

at_heap : (m : Ranges) (at len : ℕ) → IsMemory m → 1 ≤ len → at + len ≤ length m.heap → place_of m (heap_start + at) len ≡ at_place Heap at
at_heap m at len is_memory some room =
    let same : heap_start + at - heap_start ≡ at = omega arith in
    place-heap m (heap_start + at) len is_memory.program some (omega arith) (omega (arith, is_memory.heap))
    ∙ some_place (nat_le (heap_start + at - heap_start + len) (length m.heap)) (at_place Heap (heap_start + at - heap_start)) (at_place Heap at)
    (grind (arith, nat_tests)) (ap (at_place Heap) same)

at_input : (m : Ranges) (at len : ℕ) → IsMemory m → 1 ≤ len → at + len ≤ length m.input.bytes → place_of m (input_start + at) len ≡ at_place Input at
at_input m at len is_memory some room =
    let same : input_start + at - input_start ≡ at = omega arith in
    place-input m (input_start + at) len is_memory.program is_memory.heap some (omega arith)
    ∙ some_place (nat_le (input_start + at - input_start + len) (length m.input.bytes)) (at_place Input (input_start + at - input_start)) (at_place Input at)
    (grind (arith, nat_tests)) (ap (at_place Input) same)

at_stack : (m : Ranges) (addr at len : ℕ) → IsMemory m → 1 ≤ len → addr ≡ address_in at Stack → at % frame_size + len ≤ frame_size → at < stack_size → place_of m addr len ≡ at_place Stack at
at_stack m addr at len is_memory some address inside below =
    let frame : (addr - stack_start) / frame_step ≡ at / frame_size = omega arith in
    let rest : (addr - stack_start) % frame_step ≡ at % frame_size = omega arith in
    let same : frame_size * ((addr - stack_start) / frame_step) + (addr - stack_start) % frame_step ≡ at = omega arith in
    place-stack m addr len is_memory.program some (omega arith) (omega arith)
    ∙ some_place (nat_lt ((addr - stack_start) / frame_step) frame_count && nat_le
    ((addr - stack_start) % frame_step + len) frame_size)
    (at_place Stack (frame_size * ((addr - stack_start) / frame_step) + (addr - stack_start) % frame_step))
    (at_place Stack at)
    (grind (arith, nat_tests)) (ap (at_place Stack) same)

at_region : (m : Ranges) (addr len at : ℕ) (region : Region) → IsMemory m → 1 ≤ len → addr ≡ address_in at region → RoomIn m len at region → place_of m addr len ≡ at_place region at
at_region m addr len at Program is_memory some address room = rw address (at_program m at len is_memory some room)
at_region m addr len at Stack is_memory some address room = at_stack m addr at len is_memory some address room.0 room.1
at_region m addr len at Heap is_memory some address room = rw address (at_heap m at len is_memory some room)
at_region m addr len at Input is_memory some address room = rw address (at_input m at len is_memory some room)

pub place-from_stands : (m : Ranges) (addr len : ℕ) (place : Place) → IsMemory m → 1 ≤ len → StandsAt m addr len place → place_of m addr len ≡ Some place
place-from_stands m addr len place is_memory some stands = at_region m addr len place.at place.region is_memory some stands.address stands.room
