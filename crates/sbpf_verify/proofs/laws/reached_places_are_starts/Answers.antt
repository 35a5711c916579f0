use Rattle.sbpf_verify.proofs.Starts.{reached_start}
use Rattle.sbpf_verify.proofs.laws.reached_places_are_starts.Goals as goal

pub returns : goal.returns
returns c = record { reached = reached_start }
