use Rattle.sbpf_memory.specs.Plain.{plain_memory}
use Rattle.sys_calls.specs.Lines.{log_line}
use Rattle.sys_calls.proofs.Answering.{line-added}
use Rattle.sys_calls.proofs.log.log.Goals as goal

pub returns : goal.returns
returns c =
    line-added (log_line (plain_memory c.args.memory.now) c.args.text c.args.len) c.in_ok-line.line.items c.as_slice.result.now c.args.env.now c.add_line.new.env c.add_line.result
    c.in_ok-line.ensures c.as_slice.ensures.value c.add_line.ensures
