-- A run keeps the text and the ranges of the memory.
use Rattle.std.proofs.Common.{◌≡◌, ◌+◌, ◌%◌, ◌^◌, ℕ, length, ◌==◌, ◌&&◌, List, Option, Some, None, Result, Ok, Err, refl, ◌∙◌}
use Rattle.std.specs.Prelude.{nat_le}
use Rattle.std.specs.Int.{to_le_bytes, w32, w64}
use Rattle.sbpf_isa.specs.declared.rows.Operation.{Operation}
use Rattle.sbpf_isa.specs.declared.rows.OpKind.{OpKind}
use Rattle.sbpf_isa.specs.declared.rows.OpKind.TheVariants.{Binary, Negate, LittleEndian, BigEndian, Jump, JumpIf, Call, CallRegister, Exit, Load, Store, LoadWide}
use Rattle.sbpf_isa.specs.declared.rows.Width.TheVariants.{Bits64, Bits32}
use Rattle.sbpf_verify.specs.Places.{instruction_at}
use Rattle.sbpf_memory.specs.Memory.{Ranges, frame_count, store_to, write_to, width_of, load_from}
use Rattle.sbpf_memory.specs.declared.fault.AccessViolation.{AccessViolation}
use Rattle.sbpf_memory.proofs.ByAddress.{write-bounds, write-memory}
use Rattle.sbpf_memory.proofs.Keeping.{write-kept}
use Rattle.sbpf_machine.specs.declared.context.Context.{Context}
use Rattle.sbpf_machine.specs.declared.frames.Kept.{Kept}
use Rattle.sbpf_machine.specs.declared.stop.Fault.TheVariants.{DivideByZero, CallDepth}
use Rattle.sbpf_machine.specs.declared.stop.Stop.TheVariants.{Helper}
use Rattle.sbpf_machine.specs.Values.{divides, value_of}
use Rattle.sbpf_machine.proofs.Holding.{RowHolds, RowsKeep, steps_hold, ways_hold}
use Rattle.sbpf_machine.proofs.Paths.{either}
use Rattle.sbpf_machine.specs.Keeping.{Keeps, KeepsRanges}
use Rattle.sbpf_machine.specs.Steps.{Next, Go, Halt, Stuck, Operands, State, Reaches, steps, step, row_of, act, operands_at, address, binary32, binary64, bytes_in, fault, new_frame, put, source, enter, enter_at, leave, last_kept, load, store, register, start_at_address}

pub same_ranges : (m : Ranges) → KeepsRanges m m
same_ranges m = record { program = refl; prepared = refl; lent = refl; input = refl; memory = λ h. h; bounds = λ _. refl }

then_ranges : (a b c : Ranges) → KeepsRanges a b → KeepsRanges b c → KeepsRanges a c
then_ranges a b c one two = record {
  program = two.program ∙ one.program;
  prepared = two.prepared ∙ one.prepared;
  lent = two.lent ∙ one.lent;
  input = two.input ∙ one.input;
  memory = λ h. two.memory (one.memory h);
  bounds = λ h. two.bounds (one.memory h) ∙ one.bounds h;
}

write_keeps : (m n : Ranges) (addr : ℕ) (bytes : List ℕ) → write_to m addr bytes ≡ Ok n → KeepsRanges m n
write_keeps m n addr bytes h =
    let kept = write-kept m n addr bytes h in
    record {
      program = kept.program;
      prepared = kept.prepared;
      lent = kept.lent;
      input = kept.input;
      memory = λ is_memory. write-memory m n addr bytes is_memory h;
      bounds = λ is_memory. write-bounds m n addr bytes is_memory h;
    }

-- what a row leads to has the same ranges
abbrev RowKeeps : Ranges → Next → Type 0
RowKeeps m = RowHolds (λ c. KeepsRanges m c.memory)

binary64_keeps : (op : Operation) (r s p : ℕ) (c : Context) → RowKeeps c.memory (binary64 op r s p c)
binary64_keeps op r s p c =
    either (RowKeeps c.memory) (divides op && (s == 0)) (fault DivideByZero c) (Go (p + 1) (put r (value_of op w64 (register c r) s) c)) (same_ranges c.memory) (same_ranges c.memory)

binary32_keeps : (op : Operation) (r s p : ℕ) (c : Context) → RowKeeps c.memory (binary32 op r s p c)
binary32_keeps op r s p c =
    either (RowKeeps c.memory) (divides op && (s % 2 ^ 32 == 0)) (fault DivideByZero c)
    (Go (p + 1) (put r (value_of op w32 (register c r % 2 ^ 32) (s % 2 ^ 32)) c)) (same_ranges c.memory)
    (same_ranges c.memory)

leave_keeps : (c : Context) (kept : Option Kept) → RowKeeps c.memory (leave kept c)
leave_keeps c None = same_ranges c.memory
leave_keeps c (Some kept) = same_ranges c.memory

enter_keeps : (to p : ℕ) (c : Context) → RowKeeps c.memory (enter to p c)
enter_keeps to p c =
    either (RowKeeps c.memory) (nat_le frame_count (length c.frames + 1)) (fault CallDepth c) (Go to (new_frame p c)) (same_ranges c.memory) (same_ranges c.memory)

enter_at_keeps : (value p : ℕ) (c : Context) (to : Option ℕ) → RowKeeps c.memory (enter_at value p c to)
enter_at_keeps value p c None = same_ranges c.memory
enter_at_keeps value p c (Some to) = enter_keeps to p c

load_keeps : (r p : ℕ) (c : Context) (answer : Result ℕ AccessViolation) → RowKeeps c.memory (load r p c answer)
load_keeps r p c (Ok value) = same_ranges c.memory
load_keeps r p c (Err v) = same_ranges c.memory

store_keeps : (p : ℕ) (c : Context) (addr : ℕ) (bytes : List ℕ) (answer : Result Ranges AccessViolation) → write_to c.memory addr bytes ≡ answer → RowKeeps c.memory (store p c answer)
store_keeps p c addr bytes (Ok n) same = write_keeps c.memory n addr bytes same
store_keeps p c addr bytes (Err v) same = same_ranges c.memory

stored : (m : Ranges) (addr width value : ℕ) → write_to m addr (to_le_bytes (width_of width) value) ≡ store_to m addr width value
unfolding store_to
stored m addr width value = refl

act_keeps : (kind : OpKind) (text : List ℕ) (o : Operands) (p : ℕ) (c : Context) → RowKeeps c.memory (act kind text o p c)
act_keeps (Binary op Bits64 form) text o p c = binary64_keeps op o.dst (source form o c) p c
act_keeps (Binary op Bits32 form) text o p c = binary32_keeps op o.dst (source form o c) p c
act_keeps (Negate Bits64) text o p c = same_ranges c.memory
act_keeps (Negate Bits32) text o p c = same_ranges c.memory
act_keeps LittleEndian text o p c = same_ranges c.memory
act_keeps BigEndian text o p c = same_ranges c.memory
act_keeps Jump text o p c = same_ranges c.memory
act_keeps (JumpIf when form) text o p c = same_ranges c.memory
act_keeps Call text o p c = either (RowKeeps c.memory) (o.src == 1) (enter o.target p c) (Halt (Helper (o.imm % 2 ^ 32)) c) (enter_keeps o.target p c) (same_ranges c.memory)
act_keeps CallRegister text o p c = enter_at_keeps (register c o.imm) p c (start_at_address text (register c o.imm))
act_keeps Exit text o p c = leave_keeps c (last_kept c)
act_keeps (Load size) text o p c = load_keeps o.dst p c (load_from c.memory (address o.src o c) (bytes_in size))
act_keeps (Store size form) text o p c = store_keeps p c (address o.dst o c) _ _ (stored c.memory (address o.dst o c) (bytes_in size) (source form o c))
act_keeps LoadWide text o p c = same_ranges c.memory

row_keeps : (text : List ℕ) (p : ℕ) (c : Context) (kind : Option OpKind) → RowKeeps c.memory (row_of text p c kind)
row_keeps text p c None = tt
row_keeps text p c (Some kind) = act_keeps kind text (operands_at text p kind) p c

step_keeps : (text : List ℕ) (p : ℕ) (c : Context) → RowKeeps c.memory (step text p c)
unfolding step
step_keeps text p c = row_keeps text p c (instruction_at text p)

then_row : (m : Ranges) (c : Context) (next : Next) → KeepsRanges m c.memory → RowKeeps c.memory next → RowKeeps m next
then_row m c (Go to d) k h = then_ranges m c.memory d.memory k h
then_row m c (Halt stop d) k h = then_ranges m c.memory d.memory k h
then_row m c Stuck k h = tt

rows_keep : (text : List ℕ) (m : Ranges) → RowsKeep text (λ c. KeepsRanges m c.memory)
rows_keep text m p c k = then_row m c (step text p c) k (step_keeps text p c)

-- what a run comes to has the same text and ranges
pub steps_keep : (x y : State) → steps x ≡ Some y → Keeps x y
steps_keep x y s =
    let m = x.context.memory in
    let k = steps_hold (λ c. KeepsRanges m c.memory) x y (rows_keep x.text m) s (same_ranges m) in record { text = k.0; ranges = k.1 }

-- so has what stands on the way
pub ways_keep : (x y : State) → Reaches x y → Keeps x y
ways_keep x y way =
    let m = x.context.memory in
    let k = ways_hold (λ c. KeepsRanges m c.memory) x y (rows_keep x.text m) way (same_ranges m) in record { text = k.0; ranges = k.1 }
