-- The memory of a machine: ranges of addresses with their bytes (sBPF).
use Rattle.std.specs.Prelude.{◌≡◌, ℕ, ◌+◌, ◌-◌, ◌*◌, ◌/◌, ◌^◌, ◌≤◌, ◌<◌, ◌==◌, ◌&&◌, ◌⊎◌, Bool, true, false, nat_le, nat_lt, List, [], ◌∷◌, ◌++◌, length, take, drop, replicate, slice_range, map, Option, Some, None, Result, Ok, Err, IsOk, if◌then◌else◌}
use Rattle.std.specs.List.{range_with_len, Contains}
use Rattle.std.specs.Int.{Width, w8, w16, w32, w64, from_le_bytes, to_le_bytes}
use Rattle.spec_base.specs.Bytes.{with_bytes}
use Rattle.data_parts.specs.Parts.{Content, ArePrepared, StayPrepared}
use Rattle.sbpf_memory.specs.declared.place.Region.{Region}
use Rattle.sbpf_memory.specs.declared.place.Region.TheVariants.{Program, Stack, Heap, Input}
use Rattle.sbpf_memory.specs.declared.place.Place.{Place}
use Rattle.sbpf_memory.specs.declared.fault.AccessViolation.{AccessViolation}
use Rattle.sbpf_memory.specs.declared.fault.MemFault.{MemFault}
use Rattle.sbpf_memory.specs.declared.fault.MemFault.TheVariants.{AccessViolation as violation, Overlap, OutOfMemory as no_memory}

-- the first addresses of the ranges (this project's own)
abbrev pub program_start : ℕ
program_start = 0x1_0000_0000

abbrev pub stack_start : ℕ
stack_start = 0x2_0000_0000

abbrev pub heap_start : ℕ
heap_start = 0x3_0000_0000

abbrev pub input_start : ℕ
input_start = 0x4_0000_0000

-- the stack: 64 frames of 4,096 bytes, of which one begins every 8,192 addresses (this project's
-- own)
abbrev pub frame_count : ℕ
frame_count = 64

abbrev pub frame_size : ℕ
frame_size = 4096

abbrev pub frame_step : ℕ
frame_step = 8192

-- the bytes of all frames
abbrev pub stack_size : ℕ
stack_size = frame_count * frame_size

-- The bytes of a memory, range by range. The program is the text and then the constants; the frames
-- of the stack stand one after another, without the gaps between them.
pub record Ranges : Type 0 where
  pub program : List ℕ
  pub stack : List ℕ
  pub heap : List ℕ
  pub input : Content

-- what holds of each memory
pub record IsMemory (m : Ranges) : Type 0 where
  pub program : length m.program ≤ 2 ^ 32
  pub stack : length m.stack ≡ stack_size
  pub heap : length m.heap < 2 ^ 32
  pub input : length m.input.bytes < 2 ^ 32

-- a memory at the start: stack and heap are zero
abbrev pub fresh : List ℕ → ℕ → Content → Ranges
fresh image heap input =
    record {
      program = image;
      stack = replicate stack_size 0;
      heap = replicate heap 0;
      input = input;
    }

-- len bytes at an address lie within size bytes from start on
abbrev pub lies_in : ℕ → ℕ → ℕ → ℕ → Bool
lies_in start size addr len = nat_le start addr && nat_le (addr + len) (start + size)

-- the frame of an address of the stack, and where it begins
abbrev pub frame_of : ℕ → ℕ
frame_of addr = (addr - stack_start) / frame_step

abbrev pub frame_start : ℕ → ℕ
frame_start frame = stack_start + frame_step * frame

abbrev pub lies_in_frame : ℕ → ℕ → Bool
lies_in_frame addr len =
    nat_lt (frame_of addr) frame_count && lies_in (frame_start (frame_of addr)) frame_size addr len

-- a place in the bytes of a range
abbrev pub at_place : Region → ℕ → Option Place
at_place region at = Some (record { region = region; at = at })

-- where an access of len bytes lies, at least one, or None where it lies in no range
unfoldable pub place_of : Ranges → ℕ → ℕ → Option Place
place_of m addr len =
    if lies_in program_start (length m.program) addr len
    then at_place Program (addr - program_start) else
    if lies_in_frame addr len
    then at_place Stack (frame_size * frame_of addr + (addr - frame_start (frame_of addr))) else
    if lies_in heap_start (length m.heap) addr len then at_place Heap (addr - heap_start) else
    if lies_in input_start (length m.input.bytes) addr len then at_place Input (addr - input_start)
    else
    None

-- the bytes of a range
abbrev pub range_bytes : Ranges → Region → List ℕ
range_bytes m Program = m.program
range_bytes m Stack = m.stack
range_bytes m Heap = m.heap
range_bytes m Input = m.input.bytes

-- an access that is refused
abbrev pub violation_of : ℕ → ℕ → Bool → AccessViolation
violation_of addr len write = record { addr = addr; len = len; write = write }

abbrev pub bytes_at : Ranges → ℕ → ℕ → Option Place → Result (List ℕ) AccessViolation
bytes_at m addr len None = Err (violation_of addr len false)
bytes_at m addr len (Some place) = Ok (take len (drop place.at (range_bytes m place.region)))

-- the bytes of an access; one of no bytes is never refused
unfoldable pub read_from : Ranges → ℕ → ℕ → Result (List ℕ) AccessViolation
read_from m addr len = if len == 0 then Ok [] else bytes_at m addr len (place_of m addr len)

-- with another stack, and with another heap
abbrev pub with_stack : Ranges → List ℕ → Ranges
with_stack m stack = record m { stack = stack }

abbrev pub with_heap : Ranges → List ℕ → Ranges
with_heap m heap = record m { heap = heap }

-- with other bytes in the input from a place on; what is prepared and what was lent stay
abbrev pub with_input_bytes : Ranges → ℕ → List ℕ → Ranges
with_input_bytes m at bytes =
    record m { input = record m.input { bytes = with_bytes m.input.bytes at bytes } }

-- with other bytes at a place of a range; the program is not written
abbrev pub with_bytes_in : Ranges → ℕ → List ℕ → ℕ → Region → Result Ranges AccessViolation
with_bytes_in m addr bytes at Program = Err (violation_of addr (length bytes) true)
with_bytes_in m addr bytes at Stack = Ok (with_stack m (with_bytes m.stack at bytes))
with_bytes_in m addr bytes at Heap = Ok (with_heap m (with_bytes m.heap at bytes))
with_bytes_in m addr bytes at Input = Ok (with_input_bytes m at bytes)

abbrev pub with_bytes_at : Ranges → ℕ → List ℕ → Option Place → Result Ranges AccessViolation
with_bytes_at m addr bytes None = Err (violation_of addr (length bytes) true)
with_bytes_at m addr bytes (Some place) = with_bytes_in m addr bytes place.at place.region

-- the memory after a write; one of no bytes is never refused
unfoldable pub write_to : Ranges → ℕ → List ℕ → Result Ranges AccessViolation
write_to m addr bytes =
    if length bytes == 0 then Ok m else with_bytes_at m addr bytes (place_of m addr (length bytes))

-- a load and a store move 1, 2, 4 or 8 bytes
abbrev pub IsWidth : ℕ → Type 0
IsWidth width = (width ≡ 1) ⊎ ((width ≡ 2) ⊎ ((width ≡ 4) ⊎ (width ≡ 8)))

abbrev pub width_of : ℕ → Width
width_of width =
    if width == 1 then w8 else if width == 2 then w16 else if width == 4 then w32 else w64

abbrev pub number_in : ℕ → Result (List ℕ) AccessViolation → Result ℕ AccessViolation
number_in width (Ok bytes) = Ok (from_le_bytes (width_of width) bytes)
number_in width (Err refusal) = Err refusal

-- the number that stands at an address, its low byte first
unfoldable pub load_from : Ranges → ℕ → ℕ → Result ℕ AccessViolation
load_from m addr width = number_in width (read_from m addr width)

-- the memory after the low bytes of a number are written, the lowest first
unfoldable pub store_to : Ranges → ℕ → ℕ → ℕ → Result Ranges AccessViolation
store_to m addr width value = write_to m addr (to_le_bytes (width_of width) value)

-- two ranges of len addresses, at least one, meet
abbrev pub meet : ℕ → ℕ → ℕ → Bool
meet one other len = nat_lt one (other + len) && nat_lt other (one + len)

abbrev pub refusal_of : AccessViolation → MemFault
refusal_of v = violation v.addr v.len v.write

abbrev pub or_overlap : Bool → Result Ranges AccessViolation → Result Ranges MemFault
or_overlap overlap (Err v) = Err (refusal_of v)
or_overlap overlap (Ok m) = if overlap then Err Overlap else Ok m

abbrev pub copy_of : Ranges → ℕ → Bool → Result (List ℕ) AccessViolation → Result Ranges MemFault
copy_of m to overlap (Err v) = Err (refusal_of v)
copy_of m to overlap (Ok bytes) = or_overlap overlap (write_to m to bytes)

-- the memory after a copy: the read is tested first, then the write, and then, where they must
-- stand apart, whether the two ranges meet
unfoldable pub copy_to : Ranges → ℕ → ℕ → ℕ → Bool → Result Ranges MemFault
copy_to m to from len apart =
    copy_of m to (apart && nat_lt 0 len && meet to from len) (read_from m from len)

-- the refusal of a write of len bytes, if it is refused
abbrev pub refused_in : ℕ → ℕ → Region → Option AccessViolation
refused_in addr len Program = Some (violation_of addr len true)
refused_in addr len _ = None

abbrev pub refused_at : ℕ → ℕ → Option Place → Option AccessViolation
refused_at addr len None = Some (violation_of addr len true)
refused_at addr len (Some place) = refused_in addr len place.region

unfoldable pub write_refusal : Ranges → ℕ → ℕ → Option AccessViolation
write_refusal m addr len = if len == 0 then None else refused_at addr len (place_of m addr len)

-- each place of a range of addresses is prepared; those of the stack and the heap always are
abbrev pub PreparedIn : Ranges → ℕ → ℕ → Region → Type 0
PreparedIn m len at Input = ArePrepared m.input.prepared at len
PreparedIn m len at _ = Unit {0}

abbrev pub PreparedAt : Ranges → ℕ → Option Place → Type 0
PreparedAt m len None = Unit {0}
PreparedAt m len (Some place) = PreparedIn m len place.at place.region

unfoldable pub IsPrepared : Ranges → ℕ → ℕ → Type 0
IsPrepared m addr len = PreparedAt m len (place_of m addr len)

-- What a call that writes answers, by what the definition gives: the memory, or the refusal, or
-- out of memory. Either refusal leaves the memory as it was, and out of memory comes only where
-- nothing else is to refuse.
abbrev pub Answers : Result Ranges MemFault → Ranges → Ranges → Result (Unit {0}) MemFault → Type 0
Answers wanted old new (Ok _) = wanted ≡ Ok new
Answers wanted old new (Err no_memory) = (new ≡ old) × IsOk wanted
Answers wanted old new (Err fault) = (wanted ≡ Err fault) × (new ≡ old)

abbrev pub or_refusal : Result Ranges AccessViolation → Result Ranges MemFault
or_refusal (Ok m) = Ok m
or_refusal (Err v) = Err (refusal_of v)

-- What a preparation answers: whether the write would be refused.
abbrev pub PreparesIn : Option AccessViolation → Type 0 → Result (Unit {0}) MemFault → Type 0
PreparesIn refusal ready (Ok _) = (refusal ≡ None) × ready
PreparesIn refusal ready (Err no_memory) = refusal ≡ None
PreparesIn refusal ready (Err Overlap) = ⊥
PreparesIn refusal ready (Err (violation a n w)) =
    refusal ≡ Some (record { addr = a; len = n; write = w })

abbrev pub Prepares : Ranges → ℕ → ℕ → Ranges → Result (Unit {0}) MemFault → Type 0
Prepares old addr len new result =
    PreparesIn (write_refusal old addr len) (IsPrepared new addr len) result

-- a refusal leaves the memory as it was
abbrev pub StaysIfRefused : Ranges → Ranges → Result (Unit {0}) MemFault → Type 0
StaysIfRefused old new (Err (violation a n w)) = new ≡ old
StaysIfRefused old new (Err Overlap) = new ≡ old
StaysIfRefused old new (Err no_memory) = Unit {0}
StaysIfRefused old new (Ok _) = Unit {0}

-- the bytes stay, no prepared place is lost, and what was lent stays too
pub record KeepsBytes (old new : Ranges) : Type 0 where
  pub program : new.program ≡ old.program
  pub stack : new.stack ≡ old.stack
  pub heap : new.heap ≡ old.heap
  pub input : new.input.bytes ≡ old.input.bytes
  pub prepared : StayPrepared old.input.prepared new.input.prepared
  pub lent : new.input.lent ≡ old.input.lent

-- an answer that is not out of memory
abbrev pub HasMemory : Result (Unit {0}) MemFault → Type 0
HasMemory (Err no_memory) = ⊥
HasMemory _ = Unit {0}

-- The ranges as a list: where each begins, its bytes, and whether it is written.
pub record Range : Type 0 where
  pub start : ℕ
  pub bytes : List ℕ
  pub writable : Bool

abbrev pub range : ℕ → List ℕ → Bool → Range
range start bytes writable = record { start = start; bytes = bytes; writable = writable }

abbrev pub frame_range : List ℕ → ℕ → Range
frame_range stack frame =
    range (frame_start frame)
    (slice_range stack (frame_size * frame) (frame_size * frame + frame_size)) true

abbrev pub program_range : Ranges → Range
program_range m = range program_start m.program false

abbrev pub frame_ranges : Ranges → List Range
frame_ranges m = map (frame_range m.stack) (range_with_len 0 frame_count)

abbrev pub heap_range : Ranges → Range
heap_range m = range heap_start m.heap true

abbrev pub input_range : Ranges → Range
input_range m = range input_start m.input.bytes true

unfoldable pub ranges : Ranges → List Range
ranges m = (program_range m ∷ []) ++ frame_ranges m ++ (heap_range m ∷ input_range m ∷ [])

-- an access lies in a range
abbrev pub LiesIn : Range → ℕ → ℕ → Type 0
LiesIn r addr len = (r.start ≤ addr) × (addr + len ≤ r.start + length r.bytes)

-- a range of the memory in which an access lies
abbrev pub Holds : Ranges → ℕ → ℕ → Range → Type 0
Holds m addr len r = Contains (ranges m) r × LiesIn r addr len

-- the bytes of an access stand in such a range
abbrev pub ReadsIn : Ranges → ℕ → ℕ → List ℕ → Type 0
ReadsIn m addr len bytes =
    (r : Range) × Holds m addr len r × (bytes ≡ take len (drop (addr - r.start) r.bytes))

-- such a range is written
abbrev pub WritesIn : Ranges → ℕ → ℕ → Type 0
WritesIn m addr len = (r : Range) × Holds m addr len r × (r.writable ≡ true)

-- a range without its bytes: where it begins, how long it is, and whether it is written
abbrev pub bounds_of : Range → ℕ × ℕ × Bool
bounds_of r = (r.start, length r.bytes, r.writable)

abbrev pub byte_of : Result (List ℕ) AccessViolation → Option ℕ
byte_of (Ok (byte ∷ _)) = Some byte
byte_of _ = None

-- the byte at an address of the finite map that a memory is
unfoldable pub byte_at : Ranges → ℕ → Option ℕ
byte_at m addr = byte_of (read_from m addr 1)
