use Rattle.std.proofs.Common.{ℕ, List, [], ◌∷◌, map, refl, sym, ◌∙◌}
use Rattle.json_parts.specs.declared.fault.Step.TheVariants.{Member}
use Rattle.json_parts.specs.declared.fault.Wanted.TheVariants.{Instruction}
use Rattle.json_parts.specs.declared.fault.JsonFault.TheVariants.{Refused}
use Rattle.json_parts.specs.Parts.{one_of}
use Rattle.json_parts.proofs.Members.{has-shown, refused_so}
use Rattle.json_parts.proofs.parts.one_of.Goals as goal

pub returns-then-has : goal.returns-then-has
unfolding one_of
returns-then-has c =
    let is = has-shown (λ n. n.now) c.args.names.now c.args.text.now ∙ sym c.has.ensures ∙ c.if-has.true in
    rw is refl

pub returns-else-has : goal.returns-else-has
unfolding one_of
returns-else-has c =
    let names : List (List ℕ) = map (λ n. n.now) c.args.names.now in
    let is = has-shown (λ n. n.now) c.args.names.now c.args.text.now ∙ sym c.has.ensures ∙ c.if-has.false in
    refused_so c.refused_instruction.result (Refused (Member c.args.member.now ∷ []) (Instruction names)) (one_of c.args.member.now names c.args.text.now)
    c.refused_instruction.ensures (rw is refl)
