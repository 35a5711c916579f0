use Rattle.message_codec.proofs.Lengths.{length_value, length_cut, length_bad}
use Rattle.message_codec.proofs.laws.lengths_are_read_or_cut_or_bad.Goals as goal

pub returns-clause-value : goal.returns-clause-value
returns-clause-value c = length_value

pub returns-clause-cut : goal.returns-clause-cut
returns-clause-cut c = length_cut

pub returns-clause-bad : goal.returns-clause-bad
returns-clause-bad c = length_bad
