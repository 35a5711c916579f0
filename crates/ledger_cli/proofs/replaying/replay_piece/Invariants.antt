use Rattle.snapshot_codec.specs.Snapshot.{IsReadable}
use Rattle.ledger_cli.proofs.replaying.replay_piece.Given as goal

abbrev pub invariant-loop-place : goal.invariant-loop-place
invariant-loop-place g l = IsReadable l.state
