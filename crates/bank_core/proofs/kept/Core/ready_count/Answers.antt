use Rattle.std.proofs.Common.{◌∙◌}
use Rattle.bank_core.proofs.ReadyCounts.{ready_counts}
use Rattle.bank_core.proofs.kept.Core.ready_count.Goals as goal

pub returns : goal.returns
returns g c =
    let K = c.args.self.now.runs in
    c.ready_count.ensures ∙ ready_counts _ K.distinct _ _ _ K.of
