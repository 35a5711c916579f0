use Rattle.sbpf_verify.proofs.Starts.{next_start}
use Rattle.sbpf_verify.proofs.laws.what_follows_is_a_start.Goals as goal

pub returns : goal.returns
returns c = record { next = next_start }
