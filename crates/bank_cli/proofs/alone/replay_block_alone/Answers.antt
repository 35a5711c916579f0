use Rattle.std.proofs.lemmas.Result.{IfOk-weaker}
use Rattle.bank_cli.proofs.Blocks.{verdict_told}
use Rattle.bank_cli.proofs.alone.replay_block_alone.Goals as goal

pub returns : goal.returns
returns g c = IfOk-weaker _ _ _ (λ told is. verdict_told _ _ _ _ _ told c.newest-newest.ensures c.in_ok-listed.ensures.exact c.in_ok-verdict.ensures is) c.judge.ensures
