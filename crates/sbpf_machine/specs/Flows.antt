-- What the answer of one instruction says of the row that it follows.
use Rattle.std.specs.Prelude.{◌≡◌, ℕ, ◌+◌, true, List, slice_get, Some}
use Rattle.sbpf_isa.specs.declared.rows.OpKind.{OpKind}
use Rattle.sbpf_isa.specs.Calls.{IsCallNumber}
use Rattle.sbpf_verify.specs.Places.{is_start}
use Rattle.sbpf_verify.specs.declared.entry.Entry.{Entry}
use Rattle.sbpf_memory.specs.Memory.{IsPrepared}
use Rattle.sbpf_machine.specs.Steps.{Next as Row, Go, Halt, Operands, GoesOn, MayWant}
use Rattle.sbpf_machine.specs.declared.frames.Kept.{Kept}
use Rattle.sbpf_machine.specs.declared.context.Context.{Context}
use Rattle.sbpf_machine.specs.declared.stop.Stop.TheVariants.{Exit, Helper, Fault}
use Rattle.sbpf_machine.specs.declared.instruction.Flow.{Flow}
use Rattle.sbpf_machine.specs.declared.instruction.Flow.TheVariants.{Next, Jump, To, Off, NoMemory}

-- the operands that an entry holds
abbrev pub operands_of : Entry → Operands
operands_of e =
    record { dst = e.dst; src = e.src; target = e.target; offset = e.offset; imm = e.imm }

-- where an answer leads: to the next place, to the target, to another, or to a stop; without
-- memory, where the row will lead when it is tried again
abbrev pub after : Row → ℕ → ℕ → Context → Flow → Row
after row target place new Next = Go (place + 1) new
after row target place new Jump = Go target new
after row target place new (To other) = Go other new
after row target place new (Off stop) = Halt stop new
after row target place new NoMemory = row

-- the row leads where the answer says
abbrev pub Follows : Row → ℕ → ℕ → Context → Flow → Type 0
Follows row target place new flow = after row target place new flow ≡ row

-- where it goes on, an instruction starts there, and after a system call, which has its number, at
-- the place behind it
abbrev pub LandsOn : List ℕ → ℕ → ℕ → Flow → Type 0
LandsOn text target place Next = is_start text (place + 1) ≡ true
LandsOn text target place Jump = is_start text target ≡ true
LandsOn text target place (To other) = is_start text other ≡ true
LandsOn text target place (Off (Helper number)) =
    (is_start text (place + 1) ≡ true) × IsCallNumber number
LandsOn text target place (Off (Exit r0)) = Unit {0}
LandsOn text target place (Off (Fault fault)) = Unit {0}
LandsOn text target place NoMemory = Unit {0}

-- memory is wanted only by an instruction that may want it and would go on, and then nothing has
-- changed
abbrev pub WantsOnlyAt : OpKind → Operands → Row → Context → Context → Flow → Type 0
WantsOnlyAt kind o row old new NoMemory = MayWant kind o old × GoesOn row × (new ≡ old)
WantsOnlyAt kind o row old new _ = Unit {0}

-- it goes to the next place, if anywhere, and wants no memory
abbrev pub IsNext : Flow → Type 0
IsNext Next = Unit {0}
IsNext (Off (Fault fault)) = Unit {0}
IsNext _ = ⊥

-- it goes to the next place, if anywhere; or it asks for memory at an address that is not prepared, would
-- go on, and has changed nothing
abbrev pub IsNextOrWant : ℕ → ℕ → Row → Context → Context → Flow → Type 0
IsNextOrWant addr width row old new Next = Unit {0}
IsNextOrWant addr width row old new (Off (Fault fault)) = Unit {0}
IsNextOrWant addr width row old new NoMemory =
    (¬ IsPrepared old.memory addr width) × GoesOn row × (new ≡ old)
IsNextOrWant addr width row old new _ = ⊥

-- it goes to this place, if anywhere, and wants no memory
abbrev pub IsTo : ℕ → Flow → Type 0
IsTo place (To other) = other ≡ place
IsTo place (Off (Fault fault)) = Unit {0}
IsTo place _ = ⊥

-- it goes to a place where an instruction starts, if anywhere, and wants no memory
abbrev pub IsToStart : List ℕ → Flow → Type 0
IsToStart text (To other) = is_start text other ≡ true
IsToStart text (Off (Fault fault)) = Unit {0}
IsToStart text (Off (Exit r0)) = Unit {0}
IsToStart text _ = ⊥

-- it goes into the program, or stops, and wants no memory
abbrev pub IsCalling : Flow → Type 0
IsCalling (To other) = Unit {0}
IsCalling (Off stop) = Unit {0}
IsCalling _ = ⊥

-- each frame that waits goes back to where an instruction starts
abbrev pub GoBack : List ℕ → List Kept → Type 0
GoBack text frames =
    (k : ℕ) (frame : Kept) → slice_get frames k ≡ Some frame → is_start text frame.back ≡ true
