use Rattle.text_views.proofs.EqualLaws.{snapshots_are_told, blocks_are_told}
use Rattle.text_views.proofs.laws.equal_ones_have_no_lines.Goals as goal

pub returns-clause-snapshots : goal.returns-clause-snapshots
returns-clause-snapshots c = snapshots_are_told

pub returns-clause-blocks : goal.returns-clause-blocks
returns-clause-blocks c = blocks_are_told
