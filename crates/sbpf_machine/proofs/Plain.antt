-- A run does not look at what is prepared or at what was lent.
use Rattle.std.proofs.Common.{◌≡◌, ◌+◌, ◌%◌, ◌^◌, ℕ, zero, suc, length, ◌==◌, Bool, true, false, List, Option, Some, None, Result, Ok, Err, refl, ap, ◌∙◌, if◌then◌else◌}
use Rattle.std.specs.Prelude.{nat_le}
use Rattle.sbpf_isa.specs.declared.rows.OpKind.{OpKind}
use Rattle.sbpf_isa.specs.declared.rows.OpKind.TheVariants.{Binary, Negate, LittleEndian, BigEndian, Jump, JumpIf, Call, CallRegister, Exit, Load, Store, LoadWide}
use Rattle.sbpf_isa.specs.declared.rows.Width.TheVariants.{Bits64, Bits32}
use Rattle.sbpf_isa.specs.declared.rows.Operand.TheVariants.{Immediate, Register}
use Rattle.sbpf_verify.specs.Places.{instruction_at}
use Rattle.sbpf_memory.specs.Memory.{Ranges, frame_count}
use Rattle.sbpf_memory.specs.Plain.{plain_written}
use Rattle.sbpf_memory.specs.declared.fault.AccessViolation.{AccessViolation}
use Rattle.sbpf_memory.proofs.Plain.{load-plain, store-plain}
use Rattle.sbpf_machine.specs.declared.context.Context.{Context}
use Rattle.sbpf_machine.specs.declared.frames.Kept.{Kept}
use Rattle.sbpf_machine.specs.declared.stop.Fault.TheVariants.{DivideByZero, CallDepth}
use Rattle.sbpf_machine.specs.declared.stop.Stop.{Stop}
use Rattle.sbpf_machine.specs.declared.stop.Stop.TheVariants.{Helper}
use Rattle.sbpf_machine.specs.Plain.{plain_context, plain, plain_stopped}
use Rattle.sbpf_machine.specs.Steps.{Next, Go, Halt, Stuck, Operands, State, follow, first_stop, steps, steps_by, step, row_of, act, operands_at, address, binary32, binary64, bytes_in, fault, new_frame, enter, enter_at, leave, last_kept, load, store, register, start_at_address}

-- what is led to, without the notes
abbrev plain_next : Next → Next
plain_next (Go p c) = Go p (plain_context c)
plain_next (Halt stop c) = Halt stop (plain_context c)
plain_next Stuck = Stuck

choose : (b : Bool) (x y x' y' : Next) → x' ≡ plain_next x → y' ≡ plain_next y → (if b then x' else y') ≡ plain_next (if b then x else y)
choose true x y x' y' h k = h
choose false x y x' y' h k = k

loaded : (r p : ℕ) (c : Context) (answer : Result ℕ AccessViolation) → load r p (plain_context c) answer ≡ plain_next (load r p c answer)
loaded r p c (Ok value) = refl
loaded r p c (Err v) = refl

stored : (p : ℕ) (c : Context) (answer : Result Ranges AccessViolation) → store p (plain_context c) (plain_written answer) ≡ plain_next (store p c answer)
stored p c (Ok m) = refl
stored p c (Err v) = refl

leaves : (c : Context) (kept : Option Kept) → leave kept (plain_context c) ≡ plain_next (leave kept c)
leaves c None = refl
leaves c (Some kept) = refl

enters : (to p : ℕ) (c : Context) → enter to p (plain_context c) ≡ plain_next (enter to p c)
enters to p c = choose (nat_le frame_count (length c.frames + 1)) (fault CallDepth c) (Go to (new_frame p c)) _ _ refl refl

enters_at : (value p : ℕ) (c : Context) (to : Option ℕ) → enter_at value p (plain_context c) to ≡ plain_next (enter_at value p c to)
enters_at value p c None = refl
enters_at value p c (Some to) = enters to p c

binary64_plain : (op : _) (r s p : ℕ) (c : Context) → binary64 op r s p (plain_context c) ≡ plain_next (binary64 op r s p c)
binary64_plain op r s p c = choose _ (fault DivideByZero c) _ _ _ refl refl

binary32_plain : (op : _) (r s p : ℕ) (c : Context) → binary32 op r s p (plain_context c) ≡ plain_next (binary32 op r s p c)
binary32_plain op r s p c = choose _ (fault DivideByZero c) _ _ _ refl refl

act_plain : (kind : OpKind) (text : List ℕ) (o : Operands) (p : ℕ) (c : Context) → act kind text o p (plain_context c) ≡ plain_next (act kind text o p c)
act_plain (Binary op Bits64 Immediate) text o p c = binary64_plain op o.dst o.imm p c
act_plain (Binary op Bits64 Register) text o p c = binary64_plain op o.dst (register c o.src) p c
act_plain (Binary op Bits32 Immediate) text o p c = binary32_plain op o.dst o.imm p c
act_plain (Binary op Bits32 Register) text o p c = binary32_plain op o.dst (register c o.src) p c
act_plain (Negate Bits64) text o p c = refl
act_plain (Negate Bits32) text o p c = refl
act_plain LittleEndian text o p c = refl
act_plain BigEndian text o p c = refl
act_plain Jump text o p c = refl
act_plain (JumpIf when Immediate) text o p c = refl
act_plain (JumpIf when Register) text o p c = refl
act_plain Call text o p c = choose (o.src == 1) (enter o.target p c) (Halt (Helper (o.imm % 2 ^ 32)) c) _ _ (enters o.target p c) refl
act_plain CallRegister text o p c = enters_at (register c o.imm) p c (start_at_address text (register c o.imm))
act_plain Exit text o p c = leaves c (last_kept c)
act_plain (Load size) text o p c = ap (load o.dst p (plain_context c)) (load-plain c.memory (address o.src o c) (bytes_in size)) ∙ loaded o.dst p c _
act_plain (Store size Immediate) text o p c = ap (store p (plain_context c)) (store-plain c.memory (address o.dst o c) (bytes_in size) o.imm) ∙ stored p c _
act_plain (Store size Register) text o p c = ap (store p (plain_context c)) (store-plain c.memory (address o.dst o c) (bytes_in size) (register c o.src)) ∙ stored p c _
act_plain LoadWide text o p c = refl

row_plain : (text : List ℕ) (p : ℕ) (c : Context) (kind : Option OpKind) → row_of text p (plain_context c) kind ≡ plain_next (row_of text p c kind)
row_plain text p c None = refl
row_plain text p c (Some kind) = act_plain kind text (operands_at text p kind) p c

step_plain : (text : List ℕ) (p : ℕ) (c : Context) → step text p (plain_context c) ≡ plain_next (step text p c)
unfolding step
step_plain text p c = row_plain text p c (instruction_at text p)

follow_plain : (text : List ℕ) (p units : ℕ) (next : Next)
    → ((to : ℕ) (d : Context) → first_stop text units to (plain_context d)
    ≡ plain_stopped (first_stop text units to d))
    → follow text p units (first_stop text units) (plain_next next)
    ≡ plain_stopped (follow text p units (first_stop text units) next)
follow_plain text p units (Go to d) on = on to d
follow_plain text p units (Halt stop d) on = refl
follow_plain text p units Stuck on = refl

run_plain : (text : List ℕ) (units p : ℕ) (c : Context) → first_stop text units p (plain_context c) ≡ plain_stopped (first_stop text units p c)
unfolding first_stop
run_plain text zero p c = refl
run_plain text (suc units) p c = ap (follow text p units (first_stop text units)) (step_plain text p c) ∙ follow_plain text p units (step text p c) (run_plain text units)

steps_by_plain : (x : State) (stop : Option Stop) → steps_by (plain x) stop ≡ plain_stopped (steps_by x stop)
steps_by_plain x (Some stop) = refl
steps_by_plain x None = run_plain x.text x.units x.place x.context

-- a run does not look at them
pub run-plain : (x : State) → steps (plain x) ≡ plain_stopped (steps x)
unfolding steps
run-plain x = steps_by_plain x x.stop

-- a run does not look at them, where the stop is known
pub steps_plain : (x y : State) → steps x ≡ Some y → steps (plain x) ≡ Some (plain y)
steps_plain x y h = run-plain x ∙ ap plain_stopped h
