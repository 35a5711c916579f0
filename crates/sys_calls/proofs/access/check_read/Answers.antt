use Rattle.std.proofs.Common.{refl, arith}
use Rattle.sbpf_memory.proofs.Reading.{read-nothing}
use Rattle.sbpf_memory.specs.Plain.{plain_memory}
use Rattle.sys_calls.proofs.SelfCopies.{told}
use Rattle.sys_calls.proofs.access.check_read.Goals as goal

pub returns-then-len-eq0-clause-answer : goal.returns-then-len-eq0-clause-answer
returns-then-len-eq0-clause-answer c = rw (c.if-len-eq0.true, read-nothing (plain_memory c.args.memory.now) c.args.addr) refl

pub returns : goal.returns
returns c =
    let t = told c.args.memory.now c.copy.new.self c.args.addr c.args.len c.copy.result (omega arith) c.copy.ensures.answer in
    record { answer = rw c.read_refusal.ensures t.answer; memory = t.memory }
