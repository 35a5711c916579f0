use Rattle.sbpf_verify.proofs.Starts.{target_start}
use Rattle.sbpf_verify.proofs.laws.jumps_lead_to_starts.Goals as goal

pub returns : goal.returns
returns c = record { target = target_start }
