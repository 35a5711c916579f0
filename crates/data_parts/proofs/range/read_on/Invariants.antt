use Rattle.std.proofs.Common.{length, ◌-◌, ◌≡◌, ◌++◌, min, take, drop}
use Rattle.data_parts.specs.Parts.{bytes_in, before}
use Rattle.data_parts.proofs.range.read_on.Given as goal

-- the range is read as far as the pieces before this one hold it
abbrev pub invariant-loop-index : goal.invariant-loop-index
invariant-loop-index l =
    let done = min (length l.initial.into) (before l.pieces l.index - l.at) in
    l.into ≡ take done (drop l.at (bytes_in l.pieces)) ++ drop done l.initial.into

abbrev pub decreases-loop-index : goal.decreases-loop-index
decreases-loop-index l = length l.pieces - l.index
