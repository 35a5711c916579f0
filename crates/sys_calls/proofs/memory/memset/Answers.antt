use Rattle.std.proofs.Common.{◌%◌, replicate, ◌∙◌}
use Rattle.sbpf_memory.proofs.Keeping.{write-kept}
use Rattle.sys_calls.proofs.Fills.{fill-done}
use Rattle.sys_calls.proofs.Prepares.{refusal-kept}
use Rattle.sys_calls.proofs.memory.memset.Goals as goal

pub fill-requires-clause-free : goal.fill-requires-clause-free
fill-requires-clause-free c = refusal-kept c.args.memory.now c.prepare.new.memory c.args.to c.args.count c.in_ok-prepare.ensures.bytes ∙ c.in_ok-prepare.ensures.free.0

pub returns-clause-answer : goal.returns-clause-answer
returns-clause-answer c =
    fill-done c.args.memory.now c.prepare.new.memory c.fill.new.memory c.args.to (replicate c.args.count (c.args.byte % 256)) c.in_ok-prepare.ensures.bytes c.fill.ensures

pub returns-clause-lent : goal.returns-clause-lent
returns-clause-lent c = (write-kept c.prepare.new.memory c.fill.new.memory c.args.to (replicate c.args.count (c.args.byte % 256)) c.fill.ensures).lent ∙ c.in_ok-prepare.ensures.bytes.lent
