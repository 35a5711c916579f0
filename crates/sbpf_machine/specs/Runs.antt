-- A run of the machine's loop, and what holds of each machine.
use Rattle.std.specs.Prelude.{◌≡◌, ℕ, ◌+◌, true, List, Option, Some, None, IfSome}
use Rattle.sbpf_isa.specs.Calls.{IsCallNumber}
use Rattle.sbpf_verify.specs.Places.{is_start}
use Rattle.sbpf_verify.specs.Verified.{IsVerified}
use Rattle.sbpf_machine.specs.Flows.{GoBack}
use Rattle.sbpf_machine.specs.Steps.{State, IsHelper, StandsBeforeStore, going, halted, first_stop, steps}
use Rattle.sbpf_machine.specs.declared.context.Context.{Context}
use Rattle.sbpf_machine.specs.declared.stop.Stop.{Stop}
use Rattle.sbpf_machine.specs.declared.stop.Stop.TheVariants.{Exit, Helper, Fault}
use Rattle.sbpf_machine.specs.declared.run.Ended.{Ended}

-- a stop at a system call has its number
abbrev pub IsNumbered : Stop → Type 0
IsNumbered (Helper number) = IsCallNumber number
IsNumbered (Exit r0) = Unit {0}
IsNumbered (Fault fault) = Unit {0}

-- in a verified text, where an instruction starts, to which each frame that waits goes back too,
-- and after a system call the place behind it
pub record StandsAtStart (text : List ℕ) (place : ℕ) (context : Context)
    (stop : Option Stop) : Type 0 where
  pub verified : IsVerified text
  pub start : is_start text place ≡ true
  pub backs : GoBack text context.frames
  pub next : IsHelper stop → is_start text (place + 1) ≡ true
  pub number : IfSome stop IsNumbered

-- the loop has come to the first stop, or to a store that found no memory
abbrev pub EndsBy : List ℕ → ℕ → ℕ → Context → Ended → Context → Option Stop → Type 0
EndsBy text place units old ended new (Some stop) =
    first_stop text units place old ≡ Some (halted text ended.place new ended.units stop)
EndsBy text place units old ended new None =
    StandsBeforeStore (going text place old units) (going text ended.place new ended.units)

abbrev pub Ends : List ℕ → ℕ → ℕ → Context → Ended → Context → Type 0
Ends text place units old ended new = EndsBy text place units old ended new ended.stop

-- the machine has come to its first stop, or to a store that found no memory
abbrev pub ComesToBy : State → State → Option Stop → Type 0
ComesToBy old new (Some stop) = steps old ≡ Some new
ComesToBy old new None = StandsBeforeStore old new

abbrev pub ComesTo : State → State → Type 0
ComesTo old new = ComesToBy old new new.stop
