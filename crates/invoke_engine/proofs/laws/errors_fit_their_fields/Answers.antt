use Rattle.invoke_engine.proofs.Refused.{instruction-error}
use Rattle.invoke_engine.proofs.laws.errors_fit_their_fields.Goals as goal

pub returns : goal.returns
returns c = record { detail = instruction-error }
