use Rattle.std.proofs.Common.{◌-◌, length}
use Rattle.block_end.specs.RecordPrefix.{IsBegun}
use Rattle.block_end.proofs.rest.take_alone.Given as goal

-- the record has the entries so far
abbrev pub invariant-loop-begun : goal.invariant-loop-begun
invariant-loop-begun l = IsBegun l.parts l.outcomes l.begun

abbrev pub decreases-loop-begun : goal.decreases-loop-begun
decreases-loop-begun l = length l.outcomes - l.begun.count
