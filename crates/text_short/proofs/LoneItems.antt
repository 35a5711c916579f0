-- The items of an array that each stand for one value, read one after the other as a loop does.
use Rattle.std.proofs.Common.{◌≡◌, ℕ, ◌+◌, ◌<◌, List, [], ◌∷◌, ◌++◌, length, drop, map, get_or, Ok, Err, Bool, true, false, refl, ap, subst}
use Rattle.std.specs.Prelude.{MatchBool}
use Rattle.spec_base.specs.Reading.{◌>>=◌, Gives}
use Rattle.serde_json.specs.Data.{Data}
use Rattle.serde_json.specs.View.{view}
use Rattle.serde_json.specs.declared.value.Value.{Value}
use Rattle.json_parts.specs.declared.fault.Step.{Step}
use Rattle.json_parts.specs.declared.fault.Step.TheVariants.{Item}
use Rattle.json_parts.specs.declared.fault.JsonFault.{JsonFault}
use Rattle.json_parts.specs.declared.fault.JsonFault.TheVariants.{NoJson, Refused, BadSnapshot, BadBatch, BadRecord, BadImage, Trailing, OutOfMemory}
use Rattle.json_parts.specs.Faults.{Read, is_json_memory, within}
use Rattle.json_parts.specs.Parts.{items_in}
use Rattle.text_short.specs.Members.{lone}
use Rattle.json_parts.proofs.Items as lists

-- the value that was read, as a list
abbrev listed : {X : Type 0} → Read X → Read (List X)
listed read = read >>= (λ x. Ok (x ∷ []))

listed_gives : {X : Type 0} (outer read : Read X) → Gives is_json_memory (λ x. x) outer read → Gives is_json_memory (λ x. x) (listed outer) (listed read)
listed_gives (Ok x) read h = rw h refl
listed_gives {X = X} (Err e) read h = by_case (is_json_memory e) h
  where
    by_case : (b : Bool) → MatchBool b (Unit {0}) (read ≡ Err e) → MatchBool b (Unit {0}) (listed read ≡ Err e)
    by_case true g = tt
    by_case false g = rw g refl

within_listed : {X : Type 0} (step : Step) (read : Read X) → listed (within step read) ≡ within step (listed read)
within_listed step (Ok x) = refl
within_listed step (Err OutOfMemory) = refl
within_listed step (Err (NoJson line column)) = refl
within_listed step (Err (Refused path wanted)) = refl
within_listed step (Err (BadSnapshot fault)) = refl
within_listed step (Err (BadBatch fault)) = refl
within_listed step (Err (BadRecord fault)) = refl
within_listed step (Err BadImage) = refl
within_listed step (Err (Trailing at)) = refl

outer_gives : {X : Type 0} (step : Step) (inner outer : Read X) → Gives is_json_memory (λ x. x) outer (within step inner) → Gives is_json_memory (λ x. x) (listed outer) (within step (listed inner))
outer_gives {X = X} step inner outer h = subst (λ (read : Read (List X)). Gives is_json_memory (λ x. x) (listed outer) read) (within_listed step inner) (listed_gives outer (within step inner) h)

-- one more is read
pub item-more : {X : Type 0} (one : Data → Read X) (done : List X) (values : List Value) (i : ℕ) (v : Value)
    (inner outer : Read X) (x : X) (total : Read (List X)) → i < length values → v ≡ get_or values i v
    → Gives is_json_memory (λ y. y) inner (one (view v))
    → Gives is_json_memory (λ y. y) outer (within (Item i) inner) → outer ≡ Ok x
    → lists.joined done (items_in (lone one) i (map view (drop i values))) ≡ total
    → lists.joined (done ++ x ∷ []) (items_in (lone one) (i + 1) (map view (drop (i + 1) values))) ≡ total
item-more one done values i v inner outer x total below is inside outside answered so_far =
    lists.item-more (lone one) done values i v (listed inner) (listed outer) (x ∷ []) total below is
    (listed_gives inner (one (view v)) inside) (outer_gives (Item i) inner outer outside)
    (ap listed answered) so_far

-- one is refused, or memory ran out
pub item-stops : {X : Type 0} (one : Data → Read X) (done : List X) (values : List Value) (i : ℕ) (v : Value)
    (inner outer : Read X) (e : JsonFault) (total : Read (List X)) → i < length values → v ≡ get_or values i v
    → Gives is_json_memory (λ y. y) inner (one (view v))
    → Gives is_json_memory (λ y. y) outer (within (Item i) inner) → outer ≡ Err e
    → lists.joined done (items_in (lone one) i (map view (drop i values))) ≡ total
    → MatchBool (is_json_memory e) (Unit {0}) (total ≡ Err e)
item-stops one done values i v inner outer e total below is inside outside answered so_far =
    lists.item-stops (lone one) done values i v (listed inner) (listed outer) e total below is
    (listed_gives inner (one (view v)) inside) (outer_gives (Item i) inner outer outside)
    (ap listed answered) so_far
