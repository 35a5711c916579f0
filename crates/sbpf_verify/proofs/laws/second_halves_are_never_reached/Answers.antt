use Rattle.sbpf_verify.proofs.Starts.{reached_half}
use Rattle.sbpf_verify.proofs.laws.second_halves_are_never_reached.Goals as goal

pub returns : goal.returns
returns c = record { half = reached_half }
