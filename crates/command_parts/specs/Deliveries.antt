-- What sinks have taken of an answer (the project's own).
use Rattle.std.specs.Prelude.{◌≡◌, ℕ, List, ◌≤◌, length, take, Option, Result, Ok, Err, ◌⊎◌}
use Rattle.sol_io.specs.Bytes.{Appends, Keeps}
use Rattle.sol_io.specs.Counts.{Rose}
use Rattle.command_parts.specs.declared.answer.Answer.{Answer}
use Rattle.command_parts.specs.declared.delivery.Undelivered.{Undelivered}
use Rattle.command_parts.specs.declared.delivery.Undelivered.TheVariants.{SinkFailed, OutOfMemory}

-- a front of these bytes was added
abbrev pub Grows : Option (List ℕ) → Option (List ℕ) → List ℕ → Type 0
Grows old new bytes = (n : ℕ) × (n ≤ length bytes) × Appends old new (take n bytes)

-- both sinks have taken the answer whole
pub record Writes (told : Answer) (out out' notes notes' : Option (List ℕ)) : Type 0 where
  pub output_whole : Appends out out' told.output
  pub notes_whole : Appends notes notes' told.notes

-- Both sinks have taken a front of the answer, and the notes are as they were unless the output has
-- been taken whole.
pub record Begins (told : Answer) (out out' notes notes' : Option (List ℕ)) : Type 0 where
  pub output_begun : Grows out out' told.output
  pub notes_begun : Grows notes notes' told.notes
  pub ordered : Keeps notes notes' ⊎ Appends out out' told.output

-- what a delivery says of the sinks' counts of faults
abbrev pub DeliveryCounts : {A : Type 0} → Result A Undelivered → ℕ → ℕ → ℕ → ℕ → Type 0
DeliveryCounts (Ok _) out out' notes notes' = (out' ≡ out) × (notes' ≡ notes)
DeliveryCounts (Err OutOfMemory) out out' notes notes' = (out' ≡ out) × (notes' ≡ notes)
DeliveryCounts (Err SinkFailed) out out' notes notes' = Rose out out' ⊎ Rose notes notes'
