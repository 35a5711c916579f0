use Rattle.entry_laws.proofs.OwnerLaws.{good_run_in_stretches}
use Rattle.entry_laws.proofs.owners.good_entries_run_in_stretches.Goals as goal

pub returns : goal.returns
returns c = record { stretches = good_run_in_stretches }
