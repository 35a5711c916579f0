-- The members of objects in the short form (the project's own).
use Rattle.std.specs.Prelude.{ℕ, List, [], ◌∷◌, Ok, Err}
use Rattle.spec_base.specs.Reading.{◌>>=◌}
use Rattle.serde_json.specs.Data.{Data}
use Rattle.serde_json.specs.Find.{as_str}
use Rattle.sol_base.specs.declared.key.Key.{Key}
use Rattle.tx_build.specs.declared.draft.KeyedInstruction.{KeyedInstruction}
use Rattle.json_parts.specs.declared.fault.Step.TheVariants.{Member}
use Rattle.json_parts.specs.declared.fault.Wanted.TheVariants.{Text, Instruction}
use Rattle.json_parts.specs.declared.fault.JsonFault.TheVariants.{Refused}
use Rattle.json_parts.specs.Faults.{Read}
use Rattle.json_parts.specs.Parts.{or_refused, array_in, items_in}
use Rattle.text_short.specs.Names.{named_key}

unfoldable pub text_in : Data → Read (List ℕ)
text_in d = or_refused (as_str d) Text

-- a key by its digits or its name
unfoldable pub key_in : Data → Read Key
key_in d = do
  text ← text_in d
  named_key text

-- what one item stands for, as a list of one
abbrev pub lone : {X : Type 0} → (Data → Read X) → Data → Read (List X)
lone one d = one d >>= (λ x. Ok (x ∷ []))

-- an array of no more items than these
unfoldable pub list_of : {X : Type 0} → ℕ → (Data → Read X) → Data → Read (List X)
list_of most one d = do
  items ← array_in most d
  items_in (lone one) 0 items

-- the program of that member has no instruction of a name that is listed
abbrev pub no_such_instruction : List ℕ → Read KeyedInstruction
no_such_instruction program = Err (Refused (Member program ∷ []) (Instruction []))
