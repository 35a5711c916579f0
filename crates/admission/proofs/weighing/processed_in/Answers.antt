use Rattle.std.proofs.Common.{◌∙◌}
use Rattle.admission.proofs.NotedLaws.{noted_in}
use Rattle.admission.proofs.weighing.processed_in.Goals as goal

pub returns : goal.returns
returns c = noted_in c.args.recent.now c.args.wires.now c.deref.result.now c.processed_among.result (c.deref.ensures.value ∙ c.in_ok-names.ensures) c.processed_among.ensures
