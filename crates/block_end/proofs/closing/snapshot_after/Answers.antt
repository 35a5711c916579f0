use Rattle.std.proofs.Common.{List, ap}
use Rattle.status_cache.specs.declared.recent.Mark.{Mark}
use Rattle.snapshot_codec.specs.declared.snapshot.Snapshot.{Snapshot}
use Rattle.block_end.proofs.closing.snapshot_after.Goals as goal

pub returns : goal.returns
returns c = ap (λ (marks : List Mark). let s : Snapshot = record { slot = c.args.slot; limits = c.args.chain.limits; recent = marks; accounts = c.args.accounts } in s) c.in_ok-advance.ensures.ok
