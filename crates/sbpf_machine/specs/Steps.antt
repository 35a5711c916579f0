-- The steps of a machine: one row for each family of instructions (RFC 9669 and sBPF, in this
-- project's profile).
use Rattle.std.specs.Prelude.{◌≡◌, ◌<◌, ℕ, zero, suc, ◌+◌, ◌-◌, ◌*◌, ◌/◌, ◌%◌, ◌^◌, ◌==◌, ◌&&◌, List, [], ◌∷◌, ◌++◌, length, take, drop, slice_index, slice_get, slice_set, nat_le, Option, Some, None, unwrap_or, Result, Ok, Err, ℤ, pos, negsuc, if◌then◌else◌}
use Rattle.std.specs.Int.{w32, w64, cast_unsigned}
use Rattle.sbpf_isa.specs.Slots.{slot_of}
use Rattle.sbpf_isa.specs.declared.rows.Operation.{Operation}
use Rattle.sbpf_isa.specs.declared.rows.Width.TheVariants.{Bits64, Bits32}
use Rattle.sbpf_isa.specs.declared.rows.Operand.{Operand}
use Rattle.sbpf_isa.specs.declared.rows.Operand.TheVariants.{Immediate, Register}
use Rattle.sbpf_isa.specs.declared.rows.Size.{Size}
use Rattle.sbpf_isa.specs.declared.rows.Size.TheVariants.{One, Two, Four, Eight}
use Rattle.sbpf_isa.specs.declared.rows.OpKind.{OpKind}
use Rattle.sbpf_isa.specs.declared.rows.OpKind.TheVariants.{Binary, Negate, LittleEndian, BigEndian, Jump, JumpIf, Call, CallRegister, Exit, Load, Store, LoadWide}
use Rattle.sbpf_verify.specs.Entries.{immediate_of}
use Rattle.sbpf_verify.specs.Places.{is_start, instruction_at, leads_to}
use Rattle.sbpf_memory.specs.Memory.{Ranges, IsPrepared, frame_count, frame_size, frame_start, frame_step, input_start, load_from, store_to, program_start}
use Rattle.sbpf_memory.specs.declared.fault.AccessViolation.{AccessViolation}
use Rattle.sbpf_machine.specs.Values.{value_of, divides, holds, negative, low_bits, swapped_bits}
use Rattle.sbpf_machine.specs.declared.frames.Kept.{Kept}
use Rattle.sbpf_machine.specs.declared.context.Context.{Context}
use Rattle.sbpf_machine.specs.declared.stop.Fault.{Fault}
use Rattle.sbpf_machine.specs.declared.stop.Fault.TheVariants.{UnitsSpent, DivideByZero, AccessViolation as violation, CallDepth, BadCallTarget}
use Rattle.sbpf_machine.specs.declared.stop.Stop.{Stop}
use Rattle.sbpf_machine.specs.declared.stop.Stop.TheVariants.{Exit as exited, Helper, Fault as faulted}

-- what an instruction leads to: a place and what it changed, a stop, or nothing where its opcode
-- has no row
pub data Next : Type 0 where
  Go : ℕ → Context → Next
  Halt : Stop → Context → Next
  Stuck : Next

-- the operands of an instruction: its registers, the place that it leads to, its offset and its
-- immediate in 64 bits
pub record Operands : Type 0 where
  pub dst : ℕ
  pub src : ℕ
  pub target : ℕ
  pub offset : ℕ
  pub imm : ℕ

abbrev pub natural : ℤ → ℕ
natural (pos n) = n
natural (negsuc _) = 0

abbrev pub operands_at : List ℕ → ℕ → OpKind → Operands
operands_at text place kind = record {
  dst = (slot_of text place).dst;
  src = (slot_of text place).src;
  target = natural (unwrap_or (leads_to kind (slot_of text place) place) (pos 0));
  offset = cast_unsigned w64 (slot_of text place).offset;
  imm = immediate_of text place kind;
}

-- the value of a register
abbrev pub register : Context → ℕ → ℕ
register c r = slice_index c.registers r

-- the source operand
abbrev pub source : Operand → Operands → Context → ℕ
source Immediate o c = o.imm
source Register o c = register c o.src

-- with a new value in a register
abbrev pub put : ℕ → ℕ → Context → Context
put r value c = record c { registers = slice_set c.registers r value }

abbrev pub fault : Fault → Context → Next
fault f c = Halt (faulted f) c

-- class 7 works on 64 bits, class 4 on the low 32, with an upper half of 0; a divisor 0 is a fault
abbrev pub binary64 : Operation → ℕ → ℕ → ℕ → Context → Next
binary64 op r s p c =
    if divides op && (s == 0) then fault DivideByZero c
    else Go (p + 1) (put r (value_of op w64 (register c r) s) c)

abbrev pub binary32 : Operation → ℕ → ℕ → ℕ → Context → Next
binary32 op r s p c =
    if divides op && (s % 2 ^ 32 == 0) then fault DivideByZero c else
    Go (p + 1) (put r (value_of op w32 (register c r % 2 ^ 32) (s % 2 ^ 32)) c)

-- a call into the program keeps the place after it and r6 to r10, and moves r10 on to the next
-- frame of the stack; as many may be active as the stack has
abbrev pub frame_kept : ℕ → Context → Kept
frame_kept p c =
    record {
      back = p + 1;
      r6 = register c 6;
      r7 = register c 7;
      r8 = register c 8;
      r9 = register c 9;
      r10 = register c 10;
    }

abbrev pub new_frame : ℕ → Context → Context
new_frame p c =
    record c {
      registers = slice_set c.registers 10 ((register c 10 + frame_step) % 2 ^ 64);
      frames = c.frames ++ frame_kept p c ∷ [];
    }

abbrev pub enter : ℕ → ℕ → Context → Next
enter to p c =
    if nat_le frame_count (length c.frames + 1) then fault CallDepth c else Go to (new_frame p c)

-- the way back to the frame that was kept last, or out of the first
abbrev pub leave : Option Kept → Context → Next
leave None c = Halt (exited (register c 0)) c
leave (Some k) c =
    Go k.back (record
    c {
      registers = slice_set
          (slice_set (slice_set (slice_set (slice_set c.registers 6 k.r6) 7 k.r7) 8 k.r8) 9 k.r9)
          10 k.r10;
      frames = take (length c.frames - 1) c.frames;
    })

abbrev pub last_kept : Context → Option Kept
last_kept c = slice_get c.frames (length c.frames - 1)

-- the slot whose address a value is, where an instruction of the program starts there
abbrev pub slot_at_address : ℕ → ℕ
slot_at_address value = (value - program_start) / 8

unfoldable pub start_at_address : List ℕ → ℕ → Option ℕ
start_at_address text value =
    if (value == program_start + 8 * slot_at_address value) && is_start text (slot_at_address value)
    then Some (slot_at_address value) else None

-- a call to the value of a register
abbrev pub enter_at : ℕ → ℕ → Context → Option ℕ → Next
enter_at value p c None = fault (BadCallTarget value) c
enter_at value p c (Some to) = enter to p c

abbrev pub bytes_in : Size → ℕ
bytes_in One = 1
bytes_in Two = 2
bytes_in Four = 4
bytes_in Eight = 8

abbrev pub violated : AccessViolation → Context → Next
violated v c = fault (violation v.addr v.len v.write) c

abbrev pub load : ℕ → ℕ → Context → Result ℕ AccessViolation → Next
load r p c (Ok value) = Go (p + 1) (put r value c)
load r p c (Err v) = violated v c

abbrev pub store : ℕ → Context → Result Ranges AccessViolation → Next
store p c (Ok memory) = Go (p + 1) (record c { memory = memory })
store p c (Err v) = violated v c

-- the address of a load or a store, by a register and the offset
abbrev pub address : ℕ → Operands → Context → ℕ
address r o c = (register c r + o.offset) % 2 ^ 64

-- a call of a system call stops the machine
abbrev pub call : Operands → ℕ → Context → Next
call o p c = if o.src == 1 then enter o.target p c else Halt (Helper (o.imm % 2 ^ 32)) c

-- the table: what the instructions of each family do
abbrev pub act : OpKind → List ℕ → Operands → ℕ → Context → Next
act (Binary op Bits64 form) text o p c = binary64 op o.dst (source form o c) p c
act (Binary op Bits32 form) text o p c = binary32 op o.dst (source form o c) p c
act (Negate Bits64) text o p c = Go (p + 1) (put o.dst (negative w64 (register c o.dst)) c)
act (Negate Bits32) text o p c = Go (p + 1) (put o.dst (negative w32 (register c o.dst % 2 ^ 32)) c)
act LittleEndian text o p c = Go (p + 1) (put o.dst (low_bits o.imm (register c o.dst)) c)
act BigEndian text o p c = Go (p + 1) (put o.dst (swapped_bits o.imm (register c o.dst)) c)
act Jump text o p c = Go o.target c
act (JumpIf when form) text o p c =
    Go (if holds when (register c o.dst) (source form o c) then o.target else p + 1) c
act Call text o p c = call o p c
act CallRegister text o p c =
    let value = register c o.imm in enter_at value p c (start_at_address text value)
act Exit text o p c = leave (last_kept c) c
act (Load size) text o p c = load o.dst p c (load_from c.memory (address o.src o c) (bytes_in size))
act (Store size form) text o p c =
    store p c (store_to c.memory (address o.dst o c) (bytes_in size) (source form o c))
act LoadWide text o p c = Go (p + 2) (put o.dst o.imm c)

-- one instruction: the row of what stands at the place
abbrev pub row_of : List ℕ → ℕ → Context → Option OpKind → Next
row_of text place context None = Stuck
row_of text place context (Some kind) = act kind text (operands_at text place kind) place context

unfoldable pub step : List ℕ → ℕ → Context → Next
step text place context = row_of text place context (instruction_at text place)

-- A machine: its text, which no step changes, the place in it, registers, frames and memory, the
-- units left, and the stop that it stands at, if it does.
pub record State : Type 0 where
  pub text : List ℕ
  pub place : ℕ
  pub context : Context
  pub units : ℕ
  pub stop : Option Stop

abbrev pub state : List ℕ → ℕ → Context → ℕ → Option Stop → State
state text place context units stop =
    record { text = text; place = place; context = context; units = units; stop = stop }

abbrev pub going : List ℕ → ℕ → Context → ℕ → State
going text place context units = state text place context units None

abbrev pub halted : List ℕ → ℕ → Context → ℕ → Stop → State
halted text place context units stop = state text place context units (Some stop)

-- what follows an instruction, with the units then left
abbrev pub follow : List ℕ → ℕ → ℕ → (ℕ → Context → Option State) → Next → Option State
follow text place units on (Go to context) = on to context
follow text place units on (Halt stop context) = Some (halted text place context units stop)
follow text place units on Stuck = None

-- the machine at its first stop, each instruction taking a unit before it acts; None where an
-- opcode without a row is met
unfoldable pub first_stop : List ℕ → ℕ → ℕ → Context → Option State
first_stop text zero place context = Some (halted text place context 0 (faulted UnitsSpent))
first_stop text (suc units) place context =
    follow text place units (first_stop text units) (step text place context)

-- the machine at its first stop: where it stands at one, that is it
abbrev pub steps_by : State → Option Stop → Option State
steps_by x (Some stop) = Some x
steps_by x None = first_stop x.text x.units x.place x.context

unfoldable pub steps : State → Option State
steps x = steps_by x x.stop

-- the machine after its next instruction, or at the stop where no unit is left; one that stands at a
-- stop stays there
abbrev pub after_one : List ℕ → ℕ → Context → ℕ → Option State
after_one text place context zero = Some (halted text place context 0 (faulted UnitsSpent))
after_one text place context (suc units) =
    follow text place units (λ next context'. Some (going text next context' units))
    (step text place context)

abbrev pub stepped_by : State → Option Stop → Option State
stepped_by x (Some stop) = Some x
stepped_by x None = after_one x.text x.place x.context x.units

unfoldable pub stepped : State → Option State
stepped x = stepped_by x x.stop

-- the machines that one comes to by whole instructions, without a stop
pub data Reaches (x : State) : State → Type 0 where
  here : Reaches x x
  on : {place next units : ℕ} {context context' : Context}
      → Reaches x (going x.text place context (suc units))
      → step x.text place context ≡ Go next context' → Reaches x (going x.text next context' units)

-- an instruction that may take memory: a store into the input at places that are not all prepared
abbrev pub MayWant : OpKind → Operands → Context → Type 0
MayWant (Store size form) o c = ¬ IsPrepared c.memory (address o.dst o c) (bytes_in size)
MayWant _ o c = ⊥

abbrev pub MayWantAt : List ℕ → ℕ → Context → Option OpKind → Type 0
MayWantAt text place c None = ⊥
MayWantAt text place c (Some kind) = MayWant kind (operands_at text place kind) c

-- it does not stop there
abbrev pub GoesOn : Next → Type 0
GoesOn (Go place c) = Unit {0}
GoesOn (Halt stop c) = ⊥
GoesOn Stuck = ⊥

-- what a lack of memory leaves: the machine as it was before the store that met it and that would go
-- on, at no stop and with a unit for it
pub record StandsBeforeStore (old new : State) : Type 0 where
  pub reached : Reaches old new
  pub next : MayWantAt new.text new.place new.context (instruction_at new.text new.place)
  pub goes : GoesOn (step new.text new.place new.context)
  pub going : new.stop ≡ None
  pub units : 0 < new.units

-- the end of a frame of the stack, the first of which is frame 0
abbrev pub frame_end : ℕ → ℕ
frame_end frame = frame_start frame + frame_size

-- registers, frames and memory of a machine at its start: r1 is where the input begins, and r10 the
-- end of the first frame
abbrev pub first_registers : List ℕ
first_registers = 0 ∷ input_start ∷ 0 ∷ 0 ∷ 0 ∷ 0 ∷ 0 ∷ 0 ∷ 0 ∷ 0 ∷ frame_end 0 ∷ []

abbrev pub first_state : List ℕ → Ranges → ℕ → State
first_state text memory units =
    going text 0 (record { registers = first_registers; frames = []; memory = memory }) units

-- a machine that stands at a system call, and goes on with its answer in r0
abbrev pub IsHelper : Option Stop → Type 0
IsHelper (Some (Helper number)) = Unit {0}
IsHelper _ = ⊥

abbrev pub resumed : State → ℕ → State
resumed x r0 = going x.text (x.place + 1) (put 0 r0 x.context) x.units

-- r1 to r5
abbrev pub arguments_in : List ℕ → List ℕ
arguments_in registers = take 5 (drop 1 registers)

-- with other units left
abbrev pub with_units : State → ℕ → State
with_units x units = record x { units = units }
