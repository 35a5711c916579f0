use Rattle.std.proofs.Common.{◌<◌, length, sym, ◌∙◌, refl, arith}
use Rattle.cpi_calls.specs.Rights.{exceeds_with}
use Rattle.cpi_calls.proofs.Grants.{pair-more, pair-found, pair-none}
use Rattle.cpi_calls.proofs.grant.check_rights.Goals as goal

pub returns-then-too_much : goal.returns-then-too_much
returns-then-too_much c =
    let below : c.loop-i.i < length c.args.metas.now = omega (arith, c.requires.metas) in
    let g = c.loop-i.invariant ∙ pair-found (exceeds_with c.args.signers.now c.args.caller.now) c.args.asked.now
    c.args.metas.now c.loop-i.i _ _ c.loop-i-test.true below
    (sym c.exceeds-too_much.ensures ∙ c.if-too_much.true) in
    rw g refl

pub loop-i-preserved : goal.loop-i-preserved
loop-i-preserved c =
    let below : c.loop-i.i < length c.args.metas.now = omega (arith, c.requires.metas) in
    c.loop-i.invariant ∙ pair-more (exceeds_with c.args.signers.now c.args.caller.now) c.args.asked.now
    c.args.metas.now c.loop-i.i _ _ c.loop-i-test.true below
    (sym c.exceeds-too_much.ensures ∙ c.if-too_much.false)

pub returns : goal.returns
returns c =
    let g = c.loop-i.invariant ∙ pair-none (exceeds_with c.args.signers.now c.args.caller.now) c.args.asked.now c.args.metas.now c.loop-i.i c.loop-i-test.false in
    rw g refl
