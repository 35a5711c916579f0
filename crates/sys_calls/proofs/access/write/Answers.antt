use Rattle.sys_calls.proofs.Lent.{write-lent}
use Rattle.sys_calls.proofs.access.write.Goals as goal

pub returns-clause-lent : goal.returns-clause-lent
returns-clause-lent c = write-lent c.args.memory.now c.write.new.self c.args.addr c.args.bytes.now c.write.result c.write.ensures.answer
