use Rattle.text_short.proofs.ShortLaws.{built_are_read}
use Rattle.text_short.proofs.laws.built_batches_are_read.Goals as goal

pub returns : goal.returns
returns c = built_are_read
