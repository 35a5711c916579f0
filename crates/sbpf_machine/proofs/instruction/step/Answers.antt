use Rattle.sbpf_machine.proofs.instruction.step.Goals as goal

pub returns-in-Call-clause-lands : goal.returns-in-Call-clause-lands
returns-in-Call-clause-lands c = c.call.ensures.lands c.args.entry.target
