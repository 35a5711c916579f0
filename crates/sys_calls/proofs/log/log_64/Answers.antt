use Rattle.std.specs.Prelude.{Ok}
use Rattle.sys_calls.specs.Lines.{log_64_line}
use Rattle.sys_calls.proofs.Answering.{line-added}
use Rattle.sys_calls.proofs.log.log_64.Goals as goal

pub returns : goal.returns
returns c =
    line-added (Ok (log_64_line c.args.first c.args.others)) c.in_ok-line.line.items c.as_slice.result.now c.args.env.now c.add_line.new.env c.add_line.result
    c.in_ok-line.ensures c.as_slice.ensures.value c.add_line.ensures
