use Rattle.std.proofs.Common.{refl, sym, ap, ◌∙◌}
use Rattle.sbpf_verify.specs.Verified.{IsVerified, unfit}
use Rattle.sbpf_verify.proofs.Refusals.{verified_from_none}
use Rattle.sbpf_verify.proofs.verified.verify.Goals as goal

verified : (c : goal.In-None) → IsVerified c.args.text
verified c = verified_from_none c.args.text (ap unfit (sym c.as_slice.ensures) ∙ sym c.text_refusal.ensures ∙ c.in-None.is)

pub invariant_of-result : goal.invariant_of-result
invariant_of-result c = verified c

pub returns-in-None : goal.returns-in-None
returns-in-None c = (refl, verified c)
