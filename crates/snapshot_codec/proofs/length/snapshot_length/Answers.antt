use Rattle.std.proofs.Common.{◌∙◌}
use Rattle.snapshot_codec.proofs.LengthLaws.{told}
use Rattle.snapshot_codec.proofs.length.snapshot_length.Goals as goal

pub returns-clause-reader : goal.returns-clause-reader
returns-clause-reader c = λ prefix h. c.length_told.ensures ∙ told c.args.bytes.now prefix h
