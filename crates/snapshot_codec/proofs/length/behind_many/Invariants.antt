use Rattle.std.proofs.Common.{◌≡◌, ◌-◌}
use Rattle.snapshot_codec.specs.Length.{behind_many}
use Rattle.snapshot_codec.proofs.length.behind_many.Given as goal

-- what is left to pass comes to what the whole comes to
abbrev pub invariant-loop : goal.invariant-loop
invariant-loop g l = behind_many g.T.Passed.behind_one (l.count - l.counter) l.rest ≡ behind_many g.T.Passed.behind_one l.count l.bytes
