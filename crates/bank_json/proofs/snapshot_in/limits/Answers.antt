use Rattle.std.proofs.Common.{Ok, sym, ap}
use Rattle.bank_json.specs.SnapshotJson.{limits_in}
use Rattle.bank_json.proofs.snapshot_in.limits.Goals as goal

pub returns : goal.returns
unfolding limits_in
returns c = rw (
  c.in_ok-known_of_limits.ensures,
  c.in_ok-keys.ensures,
  c.in_ok-height.ensures,
  c.in_ok-key_units.ensures.gives,
  c.in_ok-block_units.ensures.gives,
)
    (ap Ok (sym c.in_ok-spelled_limits.ensures))
