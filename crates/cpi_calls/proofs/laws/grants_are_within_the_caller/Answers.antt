use Rattle.cpi_calls.proofs.Within.{rights-within}
use Rattle.cpi_calls.proofs.laws.grants_are_within_the_caller.Goals as goal

pub returns : goal.returns
returns c = record { within = rights-within }
