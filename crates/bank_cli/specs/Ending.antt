-- How the top call ends: what it answers, and what the sinks have then taken.
use Rattle.std.specs.Prelude.{◌≡◌, ℕ, List, Bool, true, Option, IfSome, ◌⊎◌}
use Rattle.sol_io.specs.Counts.{Rose}
use Rattle.command_parts.specs.declared.answer.Answer.{Answer}
use Rattle.command_parts.specs.Deliveries.{Writes, Begins}
use Rattle.bank_cli.specs.Answer.{reads_input, answer, read_failed}

-- The answer is the defined one, for the bytes that the source had left (for some bytes, where it
-- does not tell them),
-- and its count of faults stands.
pub record TellsAnswer (answers : List ℕ → Answer) (left : Option (List ℕ)) (old new : ℕ)
    (told : Answer) : Type 0 where
  pub bytes : List ℕ
  pub input : IfSome left (λ b. b ≡ bytes)
  pub defined : told ≡ answers bytes
  pub stands : new ≡ old

-- The answer says that the source failed, which was asked for its bytes and whose count of faults
-- rose.
pub record TellsFault (asked : Bool) (old new : ℕ) (told : Answer) : Type 0 where
  pub in_form : asked ≡ true
  pub defined : told ≡ read_failed
  pub rose : Rose old new

-- memory ran out, before or after the source failed
abbrev pub Stops : Bool → ℕ → ℕ → Type 0
Stops asked old new = (new ≡ old) ⊎ ((asked ≡ true) × Rose old new)

-- The clauses of the top call.

-- Both sinks have taken the defined answer whole, whose status is answered; no device failed.
pub record EndsWhole (words : List (List ℕ)) (left : Option (List ℕ)) (old new : ℕ) (status : ℕ)
    (out out' notes notes' : Option (List ℕ)) : Type 0 where
  pub told : Answer
  pub tells : TellsAnswer (answer words) left old new told
  pub status_told : status ≡ told.status
  pub written : Writes told out out' notes notes'

-- Both sinks have taken a front of the defined answer, and the source did not fail.
pub record EndsEarly (words : List (List ℕ)) (left : Option (List ℕ)) (old new : ℕ)
    (out out' notes notes' : Option (List ℕ)) : Type 0 where
  pub told : Answer
  pub tells : TellsAnswer (answer words) left old new told
  pub begun : Begins told out out' notes notes'

-- Both sinks have taken a front of what is answered where the source failed, and it did.
pub record FailsEarly (words : List (List ℕ)) (old new : ℕ)
    (out out' notes notes' : Option (List ℕ)) : Type 0 where
  pub in_form : reads_input words ≡ true
  pub rose : Rose old new
  pub begun : Begins read_failed out out' notes notes'
