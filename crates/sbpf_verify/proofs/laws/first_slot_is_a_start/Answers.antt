use Rattle.sbpf_verify.proofs.Starts.{first_start, start_below}
use Rattle.sbpf_verify.proofs.laws.first_slot_is_a_start.Goals as goal

pub returns-clause-first : goal.returns-clause-first
returns-clause-first c = first_start

pub returns-clause-below : goal.returns-clause-below
returns-clause-below c = start_below
