use Rattle.admission.specs.Answers.{told_by}
use Rattle.block_run.proofs.Calls.{admitted_are_of}
use Rattle.trace_run.proofs.Recorded.{traced_result}
use Rattle.trace_run.proofs.run.trace_block.Goals as goal

pub trace_line-requires-clause-few : goal.trace_line-requires-clause-few
trace_line-requires-clause-few g c κs within =
    (admitted_are_of c.args.snapshot c.args.batch.now.wires (told_by c.in_ok-line.line) c.requires.readable c.requires.few c.in_ok-line.ensures.exact).few

pub returns : goal.returns
returns g c = traced_result c.args.snapshot c.args.batch.now (told_by c.in_ok-line.line) c.args.sought c.trace_line.result c.in_ok-line.ensures.exact c.trace_line.ensures
