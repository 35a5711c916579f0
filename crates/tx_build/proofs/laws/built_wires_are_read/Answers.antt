use Rattle.tx_build.proofs.BuiltLaws.{built_are_read}
use Rattle.tx_build.proofs.laws.built_wires_are_read.Goals as goal

pub returns : goal.returns
returns c = built_are_read
