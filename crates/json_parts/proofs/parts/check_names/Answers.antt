use Rattle.std.proofs.Common.{ℕ, List, [], ◌∷◌, Err, map, sym, ap, ◌∙◌}
use Rattle.serde_json.specs.View.{members_view}
use Rattle.json_parts.specs.declared.fault.Step.TheVariants.{Member}
use Rattle.json_parts.specs.declared.fault.Wanted.TheVariants.{Absence}
use Rattle.json_parts.specs.declared.fault.JsonFault.TheVariants.{Refused}
use Rattle.json_parts.specs.Faults.{Read}
use Rattle.json_parts.specs.Parts.{has_name, names_in}
use Rattle.json_parts.proofs.Members.{has-shown, name_passes, name_refused, refused_so}
use Rattle.json_parts.proofs.parts.check_names.Goals as goal

pub returns-then-not-has : goal.returns-then-not-has
returns-then-not-has c =
    let names : List (List ℕ) = map (λ n. n.now) c.args.names.now in
    let is = ap (λ (n : List ℕ). has_name names n) (sym c.as_str.ensures.value) ∙ has-shown (λ n. n.now) c.args.names.now c.as_str.result.now ∙ sym c.has.ensures ∙ c.if-not-has.true in
    refused_so c.refused_name.result (Refused (Member c.as_str-then-not-has.result.now ∷ []) (Absence names)) (names_in names (members_view c.args.members.now.entries)) c.refused_name.ensures
    (sym c.loop-name.invariant ∙ name_refused names c.loop-name.rest c.next.new.self (c.in-Some.name.now, c.in-Some._value.now) c.in-Some.ensures.steps is
    ∙ ap (λ (n : List ℕ). let r : Read Unit = Err (Refused (Member n ∷ []) (Absence names)) in r) (sym c.as_str-then-not-has.ensures.value))

pub loop-name-preserved : goal.loop-name-preserved
loop-name-preserved c =
    let names : List (List ℕ) = map (λ n. n.now) c.args.names.now in
    let is = ap (λ (n : List ℕ). has_name names n) (sym c.as_str.ensures.value) ∙ has-shown (λ n. n.now) c.args.names.now c.as_str.result.now ∙ sym c.has.ensures ∙ c.if-not-has.false in
    sym (name_passes names c.loop-name.rest c.next.new.self (c.in-Some.name.now, c.in-Some._value.now) c.in-Some.ensures.steps is) ∙ c.loop-name.invariant
