use Rattle.tx_exec.proofs.Works.{works_are_lawful}
use Rattle.tx_exec.proofs.laws.transactions_are_lawful_works.Goals as goal

pub returns : goal.returns
returns c = record { lawful = works_are_lawful }
