-- Machines over verified texts come to a stop.
use Rattle.std.specs.Prelude.{◌≡◌, ◌≤◌, ℕ, List, Some}
use Rattle.sbpf_verify.specs.Verified.{IsVerified}
use Rattle.sbpf_memory.specs.Memory.{Ranges}
use Rattle.sbpf_machine.specs.Runs.{StandsAtStart}
use Rattle.sbpf_machine.specs.Steps.{State, first_state, steps}
use Rattle.sbpf_machine.specs.declared.stop.Stop.{Stop}

-- a run comes to a stop, within the units that the machine has
pub record Stops (x : State) : Type 0 where
  pub end : State
  pub run : steps x ≡ Some end
  pub stop : Stop
  pub stands : end.stop ≡ Some stop
  pub units : end.units ≤ x.units

-- from the start of a verified text, and from wherever an instruction of one starts
abbrev pub VerifiedTextsStop : Type 0
VerifiedTextsStop = (text : List ℕ) (memory : Ranges) (units : ℕ) → IsVerified text
    → Stops (first_state text memory units)

abbrev pub MachinesStop : Type 0
MachinesStop = (x : State) → StandsAtStart x.text x.place x.context x.stop → Stops x
