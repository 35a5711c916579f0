use Rattle.sbpf_verify.proofs.Refusals.{unfit_none, verified_from_none}
use Rattle.sbpf_verify.proofs.laws.verified_is_without_refusal.Goals as goal

pub returns : goal.returns
returns c = record { verified = λ text. (unfit_none text, verified_from_none text) }
