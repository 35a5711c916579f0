-- Messages that are noted as processed.
use Rattle.std.proofs.Common.{◌≡◌, ℕ, zero, suc, ◌<◌, true, ◌||◌, ◌&&◌, List, [], ◌∷◌, length, get_or, All, Option, Some, None, Result, Ok, Err, IfOk, refl, sym, ap, subst, ◌∙◌, arith}
use Rattle.std.specs.BTreeSet.{BTreeSet}
use Rattle.std.specs.List.{filter_map, cons_option}
use Rattle.std.proofs.Math.Bool.{or-true}
use Rattle.sol_base.specs.declared.key.Hash32.{Hash32}
use Rattle.sol_base.specs.Keys.{same_hash}
use Rattle.sol_base.specs.declared.memory.OutOfMemory.{OutOfMemory}
use Rattle.sol_base.proofs.KeyLaws.{same_hash-Decides}
use Rattle.message_codec.specs.declared.parsed.Parsed.{Parsed}
use Rattle.message_codec.specs.declared.parsed.Parsed.TheVariants.{Good, Bad}
use Rattle.status_cache.specs.declared.recent.Mark.{Mark}
use Rattle.status_cache.specs.Recent.{has_hash, has_name, processed}
use Rattle.admission.specs.Weighing.{IsTold, is_noted, name_in}

-- the name of a wire is one of all names
in_names : (wires : List Parsed) (k : ℕ) (d : Parsed) (name : Hash32) → k < length wires → name_in (get_or wires k d) ≡ Some name → has_hash (filter_map name_in wires) name ≡ true
in_names [] k d name below is = absurd (omega arith)
in_names (wire ∷ wires) zero d name below is =
    subst (λ (o : Option Hash32). has_hash (cons_option o (filter_map name_in wires)) name ≡ true) (sym is)
    (ap (λ b. b || has_hash (filter_map name_in wires) name) ((same_hash-Decides name name).1 refl))
in_names (wire ∷ wires) (suc k) d name below is = later (name_in wire) (in_names wires k d name (omega arith) is)
  where
    later : (o : Option Hash32) → has_hash (filter_map name_in wires) name ≡ true → has_hash (cons_option o (filter_map name_in wires)) name ≡ true
    later None e = e
    later (Some other) e = ap (λ b. same_hash other name || b) e ∙ or-true (same_hash other name)

-- each wire is told whether its message was processed
all_told : (marks : List Mark) (noted : BTreeSet Hash32) (wires : List Parsed)
    → ((name : Hash32) → has_name noted name
    ≡ (has_hash (filter_map name_in wires) name && processed marks name))
    → All (λ wire. IsTold marks wire (is_noted noted wire)) wires
all_told marks noted wires each k d below = one (get_or wires k d) refl
  where
    one : (wire : Parsed) → get_or wires k d ≡ wire → IsTold marks wire (is_noted noted wire)
    one (Bad fault) is = tt
    one (Good tx name) is = each name ∙ ap (λ b. b && processed marks name) (in_names wires k d name below (ap name_in is))

-- what is noted of the names that were found tells of each wire
pub noted_in : (marks : List Mark) (wires : List Parsed) (names : List Hash32) (r : Result (BTreeSet Hash32) OutOfMemory) → names ≡ filter_map name_in wires
    → IfOk r (λ found. (name : Hash32) → has_name found name ≡ (has_hash names name && processed marks name)) → IfOk r (λ noted. All (λ wire. IsTold marks wire (is_noted noted wire)) wires)
noted_in marks wires names (Err _) are each = tt
noted_in marks wires names (Ok noted) are each = all_told marks noted wires (λ name. each name ∙ ap (λ l. has_hash l name && processed marks name) are)
