use Rattle.sbpf_memory.proofs.Keeping.{write-kept}
use Rattle.sbpf_memory.proofs.Plain.{read-plain, load-plain, write-plain, store-plain, copy-plain}
use Rattle.sbpf_memory.proofs.laws.preparation_is_not_seen.Goals as goal

pub returns-clause-read : goal.returns-clause-read
returns-clause-read c = read-plain

pub returns-clause-loaded : goal.returns-clause-loaded
returns-clause-loaded c = load-plain

pub returns-clause-written : goal.returns-clause-written
returns-clause-written c = write-plain

pub returns-clause-stored : goal.returns-clause-stored
returns-clause-stored c = store-plain

pub returns-clause-copied : goal.returns-clause-copied
returns-clause-copied c = copy-plain

pub returns-clause-kept : goal.returns-clause-kept
returns-clause-kept c = λ m after addr bytes write. (write-kept m after addr bytes write).prepared

pub returns-clause-lent : goal.returns-clause-lent
returns-clause-lent c = λ m after addr bytes write. (write-kept m after addr bytes write).lent
