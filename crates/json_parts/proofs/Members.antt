-- The names of an object's members, looked at one after the other.
use Rattle.std.proofs.Common.{◌≡◌, ◌||◌, ℕ, List, [], ◌∷◌, map, Err, Bool, true, false, String, Global, string_bytes, refl, sym, ap, ◌∙◌}
use Rattle.std.specs.Prelude.{MatchBool}
use Rattle.std.specs.Str.{bytes_eq}
use Rattle.std.specs.List.{list_any}
use Rattle.serde_json.specs.View.{members_view}
use Rattle.serde_json.specs.declared.value.Value.{Value}
use Rattle.json_parts.specs.declared.fault.Step.TheVariants.{Member}
use Rattle.json_parts.specs.declared.fault.Wanted.TheVariants.{Absence}
use Rattle.json_parts.specs.declared.fault.JsonFault.{JsonFault}
use Rattle.json_parts.specs.declared.fault.JsonFault.TheVariants.{Refused}
use Rattle.json_parts.specs.Faults.{Read, is_json_memory}
use Rattle.json_parts.specs.Parts.{has_name, names_in}

-- one of the names that references show
pub has-shown : {X : Type 0} (shown : X → List ℕ) (names : List X) (name : List ℕ) → has_name (map shown names) name ≡ list_any (λ one. bytes_eq (shown one) name) names
has-shown shown [] name = refl
has-shown shown (one ∷ names) name = ap (λ (b : Bool). bytes_eq (shown one) name || b) (has-shown shown names name)

-- a member with one of the names is passed over
pub name_passes : (names : List (List ℕ)) (rest after : List (String Global × Value))
    (e : String Global × Value) → rest ≡ e ∷ after → has_name names (string_bytes e.0) ≡ true
    → names_in names (members_view rest) ≡ names_in names (members_view after)
name_passes names rest after e next is = rw (next, is) refl

-- another is refused
pub name_refused : (names : List (List ℕ)) (rest after : List (String Global × Value))
    (e : String Global × Value) → rest ≡ e ∷ after → has_name names (string_bytes e.0) ≡ false
    → names_in names (members_view rest) ≡ Err (Refused (Member (string_bytes e.0) ∷ []) (Absence names))
name_refused names rest after e next is = rw (next, is) refl

-- the fault that is answered for it, or out of memory
pub refused_so : (answer fault : JsonFault) (read : Read Unit)
    → MatchBool (is_json_memory answer) (Unit {0}) (answer ≡ fault) → read ≡ Err fault
    → MatchBool (is_json_memory answer) (Unit {0}) (read ≡ Err answer)
refused_so answer fault read gives is = by_case (is_json_memory answer) gives
  where
    by_case : (b : Bool) → MatchBool b (Unit {0}) (answer ≡ fault) → MatchBool b (Unit {0}) (read ≡ Err answer)
    by_case true g = tt
    by_case false g = is ∙ ap Err (sym g)
