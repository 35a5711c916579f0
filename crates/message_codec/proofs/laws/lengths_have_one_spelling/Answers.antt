use Rattle.message_codec.proofs.Lengths.{one_spelling}
use Rattle.message_codec.proofs.laws.lengths_have_one_spelling.Goals as goal

pub returns : goal.returns
returns c = record { spelling = one_spelling }
