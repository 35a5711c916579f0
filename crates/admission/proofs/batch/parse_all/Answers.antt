use Rattle.std.proofs.Common.{◌≡◌, ℕ, ◌+◌, ◌++◌, ◌∷◌, [], ◌∙◌, List, take, sym, ap, subst}
use Rattle.std.proofs.lemmas.List.{take_more}
use Rattle.message_codec.specs.declared.parsed.Parsed.{Parsed}
use Rattle.message_codec.specs.Parsing.{IsParsed}
use Rattle.admission.specs.Admission.{AreParsed}
use Rattle.admission.proofs.AnswerLaws.{parsed_more}
use Rattle.admission.proofs.batch.parse_all.Goals as goal

pub loop-wire-preserved : goal.loop-wire-preserved
loop-wire-preserved c =
    let wires : List (List ℕ) = c.as_slice-wire-items.result.now in
    let i = c.loop-wire.wire-index in
    let wire : List ℕ = c.wire-item.result in
    let parsed : Parsed = c.in_ok-parse.field-0 in
    let one = parsed_more (take i wires) c.loop-wire.parsed wire parsed c.loop-wire.invariant (subst (λ (bytes : List ℕ). IsParsed bytes parsed) c.as_slice.ensures c.in_ok-parse.ensures.meaning) in
    let next : take i wires ++ wire ∷ [] ≡ take (i + 1) wires = ap (λ (bytes : List ℕ). take i wires ++ bytes ∷ []) c.wire-item.is ∙ sym (take_more wires i wire c.loop-wire-test.true) in
    subst (λ (found : List Parsed). AreParsed (take (i + 1) wires) found) (sym c.in_ok-push.ensures.ok)
    (subst (λ (bytes : List (List ℕ)). AreParsed bytes (c.loop-wire.parsed ++ parsed ∷ [])) next one)
