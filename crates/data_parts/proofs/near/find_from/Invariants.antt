use Rattle.std.proofs.Common.{length, ◌-◌, ◌<◌, ◌≤◌}
use Rattle.data_parts.specs.Parts.{before}
use Rattle.data_parts.proofs.near.find_from.Given as goal

-- the piece does not start behind the place
abbrev pub invariant-loop-index : goal.invariant-loop-index
invariant-loop-index l =
    record {
      some : l.index < length l.pieces;
      first : before l.pieces l.index ≤ l.at;
    }

abbrev pub decreases-loop-index : goal.decreases-loop-index
decreases-loop-index l = length l.pieces - l.index
