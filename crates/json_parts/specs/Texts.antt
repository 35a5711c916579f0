-- JSON texts, and what stands in them.
use Rattle.std.specs.Prelude.{◌≡◌, ℕ, List, Bool, true, false, Option, Some, None, Ok, Err, MatchResult}
use Rattle.spec_base.specs.Reading.{Gives}
use Rattle.serde_json.specs.Data.{Data}
use Rattle.serde_json.specs.Read.{read}
use Rattle.json_parts.specs.declared.fault.JsonFault.{JsonFault}
use Rattle.json_parts.specs.declared.fault.JsonFault.TheVariants.{NoJson, Refused, BadSnapshot, BadBatch, BadRecord, BadImage, Trailing, OutOfMemory}
use Rattle.json_parts.specs.Faults.{Read, is_json_memory}

-- what reading a text that holds this value answers
abbrev pub shown : Read Data → Read (Option Data)
shown (Ok d) = Ok (Some d)
shown (Err fault) = Err fault

-- that a text is no JSON, or out of memory
abbrev pub is_of_text : JsonFault → Bool
is_of_text (NoJson _ _) = true
is_of_text (Refused _ _) = false
is_of_text (BadSnapshot _) = false
is_of_text (BadBatch _) = false
is_of_text (BadRecord _) = false
is_of_text BadImage = false
is_of_text (Trailing _) = false
is_of_text OutOfMemory = true

-- What is answered for a text that holds this value: what the value means, or that the text is no
-- JSON.
abbrev pub TextGives : {X : Type 0} → (Data → Read X) → Option Data → Read X → Type 0
TextGives meaning (Some d) answer = Gives is_json_memory (λ x. x) answer (meaning d)
TextGives meaning None answer = MatchResult answer (λ _. ⊥) (λ fault. is_of_text fault ≡ true)

-- the text holds a value that means this
abbrev pub TextIs : {X : Type 0} → (Data → Read X) → List ℕ → X → Type 0
TextIs {X = X} meaning text x = (answer : Read X) → TextGives meaning (read text) answer
    → Gives is_json_memory (λ y. y) answer (Ok x)
