use Rattle.block_replay.specs.Verdict.{same_bytes}
use Rattle.block_replay.proofs.Lines.{AreSameTo}
use Rattle.block_replay.proofs.comparing.have_same_lines.Given as goal

abbrev pub invariant-loop-place : goal.invariant-loop-place
invariant-loop-place l = AreSameTo same_bytes l.expected l.found l.place
