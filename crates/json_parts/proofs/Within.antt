-- What is read of a member or an item.
use Rattle.std.proofs.Common.{Ok, Err}
use Rattle.spec_base.specs.Reading.{Gives}
use Rattle.json_parts.specs.declared.fault.Step.{Step}
use Rattle.json_parts.specs.declared.fault.JsonFault.TheVariants.{NoJson, Refused, BadSnapshot, BadBatch, BadRecord, BadImage, Trailing, OutOfMemory}
use Rattle.json_parts.specs.Faults.{Read, is_json_memory, within}

-- where memory ran out, nothing is said of what is read
pub want : {X : Type 0} (outer read : Read X) → Gives is_json_memory (λ x. x) outer (Err OutOfMemory) → Gives is_json_memory (λ x. x) outer read
want (Ok x) read g = absurd (cc)
want (Err OutOfMemory) read g = tt
want (Err (NoJson line column)) read g = absurd (cc)
want (Err (Refused path wanted)) read g = absurd (cc)
want (Err (BadSnapshot fault)) read g = absurd (cc)
want (Err (BadBatch fault)) read g = absurd (cc)
want (Err (BadRecord fault)) read g = absurd (cc)
want (Err BadImage) read g = absurd (cc)
want (Err (Trailing at)) read g = absurd (cc)

-- what holds of what was read inside holds one step further out
pub within_gives : {X : Type 0} (step : Step) (inner outer read : Read X)
    → Gives is_json_memory (λ x. x) inner read → Gives is_json_memory (λ x. x) outer (within step inner)
    → Gives is_json_memory (λ x. x) outer (within step read)
within_gives step (Ok x) outer read h g = rw h g
within_gives step (Err OutOfMemory) outer read h g = want outer (within step read) g
within_gives step (Err (NoJson line column)) outer read h g = rw h g
within_gives step (Err (Refused path wanted)) outer read h g = rw h g
within_gives step (Err (BadSnapshot fault)) outer read h g = rw h g
within_gives step (Err (BadBatch fault)) outer read h g = rw h g
within_gives step (Err (BadRecord fault)) outer read h g = rw h g
within_gives step (Err BadImage) outer read h g = rw h g
within_gives step (Err (Trailing at)) outer read h g = rw h g
