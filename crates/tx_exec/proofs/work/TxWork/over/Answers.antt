use Rattle.tx_exec.proofs.Works.{works_are_lawful}
use Rattle.tx_exec.proofs.work.TxWork.over.Goals as goal

pub invariant_of-result-clause-lawful : goal.invariant_of-result-clause-lawful
invariant_of-result-clause-lawful c = works_are_lawful _ c.requires.chosen
