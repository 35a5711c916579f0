use Rattle.std.proofs.Common.{◌∙◌}
use Rattle.snapshot_codec.proofs.BatchHeadLaws.{told}
use Rattle.snapshot_codec.proofs.batch_head.batch_count.Goals as goal

pub returns-clause-batch : goal.returns-clause-batch
returns-clause-batch c = λ before batch is. c.count_told.ensures ∙ told before c.args.bytes.now batch is
