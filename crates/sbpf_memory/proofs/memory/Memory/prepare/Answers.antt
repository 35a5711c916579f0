use Rattle.std.proofs.Common.{sym, ◌∙◌, arith}
use Rattle.sbpf_memory.proofs.Prepared.{prepares-at}
use Rattle.sbpf_memory.proofs.memory.Memory.prepare.Goals as goal

pub returns-in-Some-clause-answer : goal.returns-in-Some-clause-answer
returns-in-Some-clause-answer c =
    prepares-at c.args.self.now c.prepare_at.new.self c.args.addr c.args.len c.in-Some.place c.prepare_at.result
    c.prepare_at.ensures.bytes (omega arith) (sym c.place.ensures.value ∙ c.in-Some.is) c.prepare_at.ensures.answer
