use Rattle.answer_laws.proofs.SameBlocks.{give_the_same, replay_alike}
use Rattle.answer_laws.proofs.equal.equal_snapshots_give_equal_blocks.Goals as goal

pub returns-clause-blocks : goal.returns-clause-blocks
returns-clause-blocks c = give_the_same

pub returns-clause-again : goal.returns-clause-again
returns-clause-again c = replay_alike
