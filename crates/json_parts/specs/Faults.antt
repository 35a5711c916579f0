-- What a JSON text is refused for, and where.
use Rattle.std.specs.Prelude.{[], ◌∷◌, ◌++◌, Bool, true, false, Result, Ok, Err}
use Rattle.json_parts.specs.declared.fault.Step.{Step}
use Rattle.json_parts.specs.declared.fault.JsonFault.{JsonFault}
use Rattle.json_parts.specs.declared.fault.JsonFault.TheVariants.{NoJson, Refused, BadSnapshot, BadBatch, BadRecord, BadImage, Trailing, OutOfMemory}

-- out of memory, which no text shows
abbrev pub is_json_memory : JsonFault → Bool
is_json_memory (NoJson _ _) = false
is_json_memory (Refused _ _) = false
is_json_memory (BadSnapshot _) = false
is_json_memory (BadBatch _) = false
is_json_memory (BadRecord _) = false
is_json_memory BadImage = false
is_json_memory (Trailing _) = false
is_json_memory OutOfMemory = true

-- what a value stands for
abbrev pub Read : Type 0 → Type 0
Read X = Result X JsonFault

-- the fault as it is one step further out
abbrev pub deeper : Step → JsonFault → JsonFault
deeper step (NoJson line column) = NoJson line column
deeper step (Refused path wanted) = Refused (path ++ step ∷ []) wanted
deeper step (BadSnapshot fault) = BadSnapshot fault
deeper step (BadBatch fault) = BadBatch fault
deeper step (BadRecord fault) = BadRecord fault
deeper step BadImage = BadImage
deeper step (Trailing at) = Trailing at
deeper step OutOfMemory = OutOfMemory

abbrev pub within : {X : Type 0} → Step → Read X → Read X
within step (Ok x) = Ok x
within step (Err fault) = Err (deeper step fault)
