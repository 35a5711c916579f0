-- Where an access lies, range by range.
use Rattle.std.proofs.Common.{◌≡◌, ℕ, ◌+◌, ◌-◌, ◌*◌, ◌/◌, ◌%◌, ◌^◌, ◌≤◌, ◌<◌, ◌&&◌, false, nat_le, nat_lt, length, None, if◌then◌else◌, arith}
use Rattle.std.proofs.lemmas.Bool.Decides.{nat_tests}
use Rattle.sbpf_memory.specs.declared.place.Region.TheVariants.{Program, Stack, Heap, Input}
use Rattle.sbpf_memory.specs.Memory.{Ranges, place_of, at_place, lies_in, lies_in_frame, program_start, stack_start, heap_start, input_start, frame_size, frame_step, frame_count}

-- an address lies in no range that ends before it
outside : (start size addr len : ℕ) → start + size ≤ addr → 1 ≤ len → lies_in start size addr len ≡ false
outside start size addr len before some = grind (arith, nat_tests)

outside_frames : (addr len : ℕ) → heap_start ≤ addr → lies_in_frame addr len ≡ false
outside_frames addr len after = grind (arith, nat_tests)

-- the place within the stack of an address of it
in_stack : (addr len : ℕ) → stack_start ≤ addr → 1 ≤ len
    → lies_in_frame addr len ≡ (nat_lt ((addr - stack_start) / frame_step) frame_count && nat_le
    ((addr - stack_start) % frame_step + len) frame_size)
in_stack addr len after some = grind (arith, nat_tests)

-- the first addresses of the ranges are this far apart
abbrev range_step : ℕ
range_step = 0x1_0000_0000

-- the place of an address in its range
in_program : (addr : ℕ) → program_start ≤ addr → addr < stack_start → addr % range_step ≡ addr - program_start
in_program addr after before = grind (arith, nat_tests)

in_frames : (addr : ℕ) → stack_start ≤ addr → addr < heap_start → addr % range_step ≡ addr - stack_start
in_frames addr after before = grind (arith, nat_tests)

in_heap : (addr : ℕ) → heap_start ≤ addr → addr < input_start → addr % range_step ≡ addr - heap_start
in_heap addr after before = grind (arith, nat_tests)

-- where an access lies
pub place-program : (m : Ranges) (addr len : ℕ) → length m.program ≤ 2 ^ 32 → 1 ≤ len → program_start ≤ addr → addr < stack_start
    → place_of m addr len ≡ (if nat_le (addr - program_start + len) (length m.program) then at_place Program (addr - program_start) else None)
unfolding place_of
place-program m addr len program some after before = grind (arith, nat_tests)

pub place-stack : (m : Ranges) (addr len : ℕ) → length m.program ≤ 2 ^ 32 → 1 ≤ len → stack_start ≤ addr → addr < heap_start
    → place_of m addr len ≡ (if nat_lt ((addr - stack_start) / frame_step) frame_count && nat_le
    ((addr - stack_start) % frame_step + len) frame_size then at_place Stack
    (frame_size * ((addr - stack_start) / frame_step) + (addr - stack_start) % frame_step) else None)
unfolding place_of
place-stack m addr len program some after before = grind (arith, nat_tests, outside, in_stack)

pub place-heap : (m : Ranges) (addr len : ℕ) → length m.program ≤ 2 ^ 32 → 1 ≤ len → heap_start ≤ addr → addr < input_start
    → place_of m addr len ≡ (if nat_le (addr - heap_start + len) (length m.heap) then at_place Heap (addr - heap_start) else None)
unfolding place_of
place-heap m addr len program some after before = grind (arith, nat_tests, outside, outside_frames)

-- the place of an address, where the place in the range is what is left of the address
pub rest-program : (m : Ranges) (addr len : ℕ) → length m.program ≤ 2 ^ 32 → 1 ≤ len → program_start ≤ addr → addr < stack_start
    → place_of m addr len ≡ (if nat_le (addr % range_step + len) (length m.program) then at_place Program (addr % range_step) else None)
rest-program m addr len bound some after before = rw (in_program addr after before) (place-program m addr len bound some after before)

pub rest-stack : (m : Ranges) (addr len : ℕ) → length m.program ≤ 2 ^ 32 → 1 ≤ len → stack_start ≤ addr → addr < heap_start
    → place_of m addr len ≡ (if nat_lt (addr % range_step / frame_step) frame_count && nat_le
    (addr % range_step % frame_step + len) frame_size then at_place Stack
    (frame_size * (addr % range_step / frame_step) + addr % range_step % frame_step) else None)
rest-stack m addr len bound some after before = rw (in_frames addr after before) (place-stack m addr len bound some after before)

pub rest-heap : (m : Ranges) (addr len : ℕ) → length m.program ≤ 2 ^ 32 → 1 ≤ len → heap_start ≤ addr → addr < input_start
    → place_of m addr len ≡ (if nat_le (addr % range_step + len) (length m.heap) then at_place Heap (addr % range_step) else None)
rest-heap m addr len bound some after before = rw (in_heap addr after before) (place-heap m addr len bound some after before)

pub place-input : (m : Ranges) (addr len : ℕ) → length m.program ≤ 2 ^ 32 → length m.heap < 2 ^ 32 → 1 ≤ len → input_start ≤ addr
    → place_of m addr len ≡ (if nat_le (addr - input_start + len) (length m.input.bytes) then at_place Input (addr - input_start) else None)
unfolding place_of
place-input m addr len program heap some after = grind (arith, nat_tests, outside, outside_frames)

pub ruleset places = (rest-program, rest-stack, rest-heap, place-input)
