use Rattle.block_laws.proofs.Conserved.{executables_stay}
use Rattle.block_laws.proofs.running.executable_accounts_stay.Goals as goal

pub returns : goal.returns
returns c = record { stay = executables_stay }
