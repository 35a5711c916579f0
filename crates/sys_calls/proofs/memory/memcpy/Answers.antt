use Rattle.std.proofs.Common.{true}
use Rattle.sys_calls.proofs.Lent.{copy-lent}
use Rattle.sys_calls.proofs.memory.memcpy.Goals as goal

pub returns-clause-lent : goal.returns-clause-lent
returns-clause-lent c = copy-lent c.args.memory.now c.copy.new.self c.args.to c.args.from c.args.count true c.in_ok-copy.ensures.answer
