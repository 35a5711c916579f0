-- Arrays as lists of values.
use Rattle.std.proofs.Common.{◌≡◌, ◌≤◌, ◌<◌, ℕ, List, [], ◌∷◌, ◌++◌, length, map, Ok, Err, true, false, refl, sym, ap, ◌∙◌, append_assoc, arith}
use Rattle.std.specs.Prelude.{nat_le}
use Rattle.std.proofs.lemmas.Bool.Decides.{nat_tests}
use Rattle.std.proofs.lemmas.List.{length-map, map-append}
use Rattle.serde_json.specs.Data.{Data}
use Rattle.serde_json.specs.View.{view, items_view}
use Rattle.serde_json.specs.declared.value.Value.{Value}
use Rattle.json_parts.specs.declared.fault.Wanted.TheVariants.{Array}
use Rattle.json_parts.specs.declared.fault.JsonFault.TheVariants.{Refused}
use Rattle.json_parts.specs.Parts.{or_refused, if_few}
use Rattle.json_parts.proofs.Items.{data_of-items}

few_test : (n most : ℕ) → n ≤ most → nat_le n most ≡ true
few_test n most few = grind (arith, nat_tests)

many_test : (n most : ℕ) → most < n → nat_le n most ≡ false
many_test n most many = grind (arith, nat_tests)

-- an array of few items
pub few_items : (most : ℕ) (values : List Value) → length values ≤ most → or_refused (if_few most (items_view values)) (Array most) ≡ Ok (map view values)
few_items most values few = rw (data_of-items (map view values), length-map values view, few_test (length values) most few) refl

-- and of many
pub many_items : (most : ℕ) (values : List Value) → most < length values → or_refused (if_few most (items_view values)) (Array most) ≡ Err (Refused [] (Array most))
many_items most values many = rw (data_of-items (map view values), length-map values view, many_test (length values) most many) refl

-- one value more is shown
pub shows_on : {X : Type 0} (json : X → Data) (values new : List Value) (v : Value) (all left after : List X)
    (x : X) → map view values ++ map json left ≡ map json all → left ≡ x ∷ after → view v ≡ json x
    → new ≡ values ++ v ∷ [] → map view new ++ map json after ≡ map json all
shows_on {X = X} json values new v all left after x so_far next is pushed =
    let grown : map view new ≡ map view values ++ json x ∷ [] = ap (map view) pushed ∙ map-append view values (v ∷ []) ∙ ap (λ (d : Data). map view values ++ d ∷ []) is in
    ap (λ (l : List Data). l ++ map json after) grown ∙ append_assoc (map view values) (json x ∷ []) (map json after) ∙ ap (λ (l : List X). map view values ++ map json l) (sym next) ∙ so_far
