use Rattle.block_laws.proofs.Conserved.{activated_are_ready}
use Rattle.block_laws.proofs.running.activated_programs_are_ready.Goals as goal

pub returns : goal.returns
returns c = record { ready = activated_are_ready }
