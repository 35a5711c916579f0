use Rattle.std.proofs.Common.{None}
use Rattle.tx_build.proofs.Merging.{get_changed}
use Rattle.tx_build.proofs.mentions.list_once.Goals as goal

pub returns-in-Some-clause-left : goal.returns-in-Some-clause-left
returns-in-Some-clause-left c = get_changed c.args.unlisted.now c.remove.new.self c.args.key.now None c.in-Some.ensures.updates.0
