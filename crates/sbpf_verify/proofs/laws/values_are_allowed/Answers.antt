use Rattle.sbpf_verify.proofs.Starts.{has_values}
use Rattle.sbpf_verify.proofs.laws.values_are_allowed.Goals as goal

pub returns : goal.returns
returns c = record { values = has_values }
