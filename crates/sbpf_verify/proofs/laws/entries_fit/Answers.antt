use Rattle.sbpf_verify.proofs.Starts.{entry_fits}
use Rattle.sbpf_verify.proofs.laws.entries_fit.Goals as goal

pub returns : goal.returns
returns c = record { fits = entry_fits }
