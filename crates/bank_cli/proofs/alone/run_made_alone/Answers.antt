use Rattle.std.proofs.Common.{◌∙◌}
use Rattle.bank_cli.proofs.Blocks.{line_told}
use Rattle.bank_cli.proofs.alone.run_made_alone.Goals as goal

pub returns : goal.returns
returns g c = c.tell.ensures ∙ line_told _ _ _ _ c.in_ok-done.ensures.exact c.in_ok-line.ensures
