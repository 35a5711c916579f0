-- The items of an array, read one after the other as a loop does.
use Rattle.std.proofs.Common.{◌≡◌, ℕ, ◌+◌, ◌<◌, ◌≤◌, List, [], ◌∷◌, ◌++◌, length, drop, map, get_or, Ok, Err, Bool, true, false, refl, sym, ap, subst, ◌∙◌, append_assoc, append-nil}
use Rattle.std.specs.Prelude.{MatchBool}
use Rattle.std.proofs.lemmas.List.{drop_more, drop_all}
use Rattle.spec_base.specs.Reading.{◌>>=◌, Gives}
use Rattle.serde_json.specs.Data.{Data}
use Rattle.serde_json.specs.View.{view, items_of}
use Rattle.serde_json.specs.declared.value.Value.{Value}
use Rattle.json_parts.specs.declared.fault.Step.TheVariants.{Item}
use Rattle.json_parts.specs.declared.fault.JsonFault.{JsonFault}
use Rattle.json_parts.specs.Faults.{Read, is_json_memory, within}
use Rattle.json_parts.specs.Parts.{data_of, items_in}
use Rattle.json_parts.proofs.Within.{within_gives}

-- what was read and then the rest
abbrev pub joined : {X : Type 0} → List X → Read (List X) → Read (List X)
joined done rest = rest >>= (λ more. Ok (done ++ more))

pub joined-none : {X : Type 0} (rest : Read (List X)) → joined [] rest ≡ rest
joined-none (Ok more) = refl
joined-none (Err e) = refl

joined-more : {X : Type 0} (done part : List X) (rest : Read (List X)) → joined done (rest >>= (λ more. Ok (part ++ more))) ≡ joined (done ++ part) rest
joined-more done part (Ok more) = ap Ok (sym (append_assoc done part more))
joined-more done part (Err e) = refl

-- one item more is read
pub items-more : {X : Type 0} (one : Data → Read (List X)) (done : List X) (values : List Value) (i : ℕ)
    (d : Value) (part : List X) → i < length values → within (Item i) (one (view (get_or values i d))) ≡ Ok part
    → joined done (items_in one i (map view (drop i values))) ≡ joined (done ++ part) (items_in one (i + 1) (map view (drop (i + 1) values)))
unfolding items_in
items-more one done values i d part below h = rw (drop_more values i d below, h) (joined-more done part (items_in one (i + 1) (map view (drop (i + 1) values))))

-- the next is refused
items-ends : {X : Type 0} (one : Data → Read (List X)) (done : List X) (values : List Value) (i : ℕ) (d : Value)
    (e : JsonFault) → i < length values → within (Item i) (one (view (get_or values i d))) ≡ Err e
    → joined done (items_in one i (map view (drop i values))) ≡ Err e
unfolding items_in
items-ends one done values i d e below h = rw (drop_more values i d below, h) refl

-- the next is refused, or memory ran out
pub items-stops : {X : Type 0} (one : Data → Read (List X)) (done : List X) (values : List Value) (i : ℕ) (d : Value) (e : JsonFault) (total : Read (List X)) → i < length values
    → MatchBool (is_json_memory e) (Unit {0}) (within (Item i) (one (view (get_or values i d))) ≡ Err e)
    → joined done (items_in one i (map view (drop i values))) ≡ total
    → MatchBool (is_json_memory e) (Unit {0}) (total ≡ Err e)
items-stops {X = X} one done values i d e total below h so_far = by_case (is_json_memory e) h
  where
    by_case : (b : Bool) → MatchBool b (Unit {0}) (within (Item i) (one (view (get_or values i d))) ≡ Err e) → MatchBool b (Unit {0}) (total ≡ Err e)
    by_case true g = tt
    by_case false g = sym so_far ∙ items-ends one done values i d e below g

-- all are read
pub items-done : {X : Type 0} (one : Data → Read (List X)) (done : List X) (values : List Value) (i : ℕ) → length values ≤ i → joined done (items_in one i (map view (drop i values))) ≡ Ok done
unfolding items_in
items-done one done values i past = rw (drop_all i values past) (ap Ok (append-nil done))

pub data_of-items : (ds : List Data) → data_of (items_of ds) ≡ ds
data_of-items [] = refl
data_of-items (d ∷ ds) = ap (λ (l : List Data). d ∷ l) (data_of-items ds)

-- what was answered for the item that was looked at

-- it is read
pub item-more : {X : Type 0} (one : Data → Read (List X)) (done : List X) (values : List Value) (i : ℕ)
    (v : Value) (inner outer : Read (List X)) (part : List X) (total : Read (List X)) → i < length values
    → v ≡ get_or values i v → Gives is_json_memory (λ x. x) inner (one (view v))
    → Gives is_json_memory (λ x. x) outer (within (Item i) inner) → outer ≡ Ok part
    → joined done (items_in one i (map view (drop i values))) ≡ total
    → joined (done ++ part) (items_in one (i + 1) (map view (drop (i + 1) values))) ≡ total
item-more {X = X} one done values i v inner outer part total below is inside outside answered so_far =
    let gives = within_gives (Item i) inner outer (one (view v)) inside outside in
    let here : within (Item i) (one (view v)) ≡ Ok part = subst (λ (o : Read (List X)). Gives is_json_memory (λ x. x) o (within (Item i) (one (view v)))) answered gives in
    let there : within (Item i) (one (view (get_or values i v))) ≡ Ok part = ap (λ (w : Value). within (Item i) (one (view w))) (sym is) ∙ here in
    sym (items-more one done values i v part below there) ∙ so_far

-- it is refused, or memory ran out
pub item-stops : {X : Type 0} (one : Data → Read (List X)) (done : List X) (values : List Value) (i : ℕ)
    (v : Value) (inner outer : Read (List X)) (e : JsonFault) (total : Read (List X)) → i < length values
    → v ≡ get_or values i v → Gives is_json_memory (λ x. x) inner (one (view v))
    → Gives is_json_memory (λ x. x) outer (within (Item i) inner) → outer ≡ Err e
    → joined done (items_in one i (map view (drop i values))) ≡ total
    → MatchBool (is_json_memory e) (Unit {0}) (total ≡ Err e)
item-stops {X = X} one done values i v inner outer e total below is inside outside answered so_far =
    let gives = within_gives (Item i) inner outer (one (view v)) inside outside in
    let here : MatchBool (is_json_memory e) (Unit {0}) (within (Item i) (one (view v)) ≡ Err e) = subst
    (λ (o : Read (List X)). Gives is_json_memory (λ x. x) o (within (Item i) (one (view v)))) answered gives
    in
    items-stops one done values i v e total below (subst (λ (w : Value). MatchBool (is_json_memory e) (Unit {0}) (within (Item i) (one (view w)) ≡ Err e)) is here) so_far
