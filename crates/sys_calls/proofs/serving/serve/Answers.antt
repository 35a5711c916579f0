use Rattle.std.proofs.Common.{◌∙◌}
use Rattle.std.specs.Prelude.{nat_lt}
use Rattle.std.proofs.lemmas.Result.{err_from_is_err_and}
use Rattle.sbpf_memory.specs.Plain.{plain_memory}
use Rattle.sys_calls.proofs.Loops.{charge-refused, spent-none}
use Rattle.sys_calls.proofs.Answering.{served, row-spent, spent-serves, serves-memory}
use Rattle.sys_calls.proofs.serving.serve.Goals as goal

pub returns-in_err-charge-clause-answer : goal.returns-in_err-charge-clause-answer
returns-in_err-charge-clause-answer c =
    let p = err_from_is_err_and c.from_residual.result c.from_residual.ensures.1 in
    let s = charge-refused (nat_lt c.args.env.now.units c.cost.result) c.in_err-charge.field-0.0 c.in_err-charge.ensures.answer in
    let spent = rw (c.cost.ensures, c.numbered-call.ensures, c.len.ensures) at s.0 in
    rw (p.1, p.2, s.1) (spent-serves _ c.args.memory.now c.args.env.now c.charge.new.units
    (row-spent c.args.number c.args.arguments (plain_memory c.args.memory.now) c.args.env.now spent)
    (c.charge.ensures.left ∙ spent-none c.args.env.now.units c.cost.result s.0))

pub returns-clause-answer : goal.returns-clause-answer
returns-clause-answer c =
    served c.args.number c.args.arguments c.args.memory.now c.take_effect.new.memory c.args.env.now
    c.take_effect.new.env c.charge.new.units c.cost.result c.len.result c.numbered-call.result
    c.take_effect.result
    c.numbered-call.ensures c.len.ensures c.cost.ensures c.in_ok-charge.ensures.answer c.in_ok-charge.ensures.left c.take_effect.ensures

pub returns-clause-memory : goal.returns-clause-memory
returns-clause-memory c =
    serves-memory c.args.number c.args.arguments c.args.memory.now c.take_effect.new.memory c.args.env.now c.take_effect.new.env c.take_effect.result c.take_effect.ensures.5
    (served c.args.number c.args.arguments c.args.memory.now c.take_effect.new.memory c.args.env.now
    c.take_effect.new.env c.charge.new.units c.cost.result c.len.result c.numbered-call.result
    c.take_effect.result
    c.numbered-call.ensures c.len.ensures c.cost.ensures c.in_ok-charge.ensures.answer c.in_ok-charge.ensures.left c.take_effect.ensures)
