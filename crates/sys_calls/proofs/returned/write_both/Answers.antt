use Rattle.std.proofs.Common.{◌∙◌}
use Rattle.sys_calls.proofs.Lent.{write-lent}
use Rattle.sys_calls.proofs.Prepares.{both-done}
use Rattle.sys_calls.proofs.returned.write_both.Goals as goal

pub returns-clause-answer : goal.returns-clause-answer
returns-clause-answer c =
    both-done c.args.memory.now c.prepare.new.memory c.prepare-2.new.memory c.write.new.self c.write-2.new.self c.args.to c.args.first.now c.args.other c.args.second.now c.write-2.result
    c.in_ok-prepare.ensures.bytes c.in_ok-prepare-2.ensures.bytes c.in_ok-prepare-2.ensures.free.0 c.in_ok-prepare-2.ensures.free.1 c.in_ok-write.ensures.answer
    c.write-2.ensures.answer c.write-2.ensures.ready

pub returns-clause-lent : goal.returns-clause-lent
returns-clause-lent c =
    write-lent c.write.new.self c.write-2.new.self c.args.other c.args.second.now c.write-2.result c.write-2.ensures.answer
    ∙ write-lent c.prepare-2.new.memory c.write.new.self c.args.to c.args.first.now c.write.result c.write.ensures.answer
    ∙ c.in_ok-prepare-2.ensures.bytes.lent ∙ c.in_ok-prepare.ensures.bytes.lent
