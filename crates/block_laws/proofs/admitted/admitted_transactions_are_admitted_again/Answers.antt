use Rattle.block_laws.proofs.Again.{admitted_again}
use Rattle.block_laws.proofs.admitted.admitted_transactions_are_admitted_again.Goals as goal

pub returns : goal.returns
returns c = record { again = admitted_again }
