use Rattle.std.proofs.Common.{◌≡◌, ◌<◌, ◌-◌, ◌+◌, arith, sym, ◌∙◌, ap}
use Rattle.std.proofs.lemmas.Grind.{common_steps}
use Rattle.sbpf_verify.specs.Places.{slot_count}
use Rattle.sbpf_verify.specs.Verified.{first_applying}
use Rattle.sbpf_verify.proofs.Refusals.{rest, rest_on, rest_off, rest_end, unfit_len, unfit_rest}
use Rattle.sbpf_verify.proofs.refusal.text_refusal.Goals as goal

pub returns-then-has_bad_length : goal.returns-then-has_bad_length
returns-then-has_bad_length c = sym (unfit_len c.args.text.now (sym c.has_bad_length.ensures ∙ c.if-has_bad_length.true))

pub loop-at-preserved : goal.loop-at-preserved
loop-at-preserved c =
    let more : 0 < slot_count c.args.text.now - c.loop-at.at = omega arith in
    let fewer : slot_count c.args.text.now - c.loop-at.at - 1 ≡ slot_count c.args.text.now - (c.loop-at.at + 1) = omega arith in
    c.loop-at.invariant ∙ rest_on c.args.text.now c.loop-at.at _ more (sym c.slot_refusal.ensures ∙ c.in_default.is) ∙ ap (λ n. first_applying (rest c.args.text.now (c.loop-at.at + 1) n)) fewer

pub returns-in-Some : goal.returns-in-Some
returns-in-Some c =
    let more : 0 < slot_count c.args.text.now - c.loop-at.at = omega arith in
    sym (unfit_rest c.args.text.now (sym c.has_bad_length.ensures ∙ c.if-has_bad_length.false)
    ∙ c.loop-at.invariant ∙ rest_off c.args.text.now c.loop-at.at _ c.in-Some.fault more
    (sym c.slot_refusal.ensures ∙ c.in-Some.is))

pub returns : goal.returns
returns c =
    let done : slot_count c.args.text.now - c.loop-at.at ≡ 0 = omega arith in
    let ends = unfit_rest c.args.text.now (sym c.has_bad_length.ensures ∙ c.if-has_bad_length.false) ∙ c.loop-at.invariant ∙ rest_end c.args.text.now c.loop-at.at _ done in
    grind (arith, common_steps)
