use Rattle.block_replay.proofs.Firsts.{NoneDiffers}
use Rattle.block_replay.proofs.comparing.compare_entries.Given as goal

abbrev pub invariant-loop-place : goal.invariant-loop-place
invariant-loop-place l = NoneDiffers l.given l.replayed l.place
