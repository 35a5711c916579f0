use Rattle.std.proofs.Common.{length, ◌-◌, ◌≡◌, min, take}
use Rattle.spec_base.specs.Bytes.{with_bytes}
use Rattle.data_parts.specs.Parts.{bytes_in, tests_in, before, is_own, is_prepared, AreInOrder, StayLent}
use Rattle.data_parts.proofs.range.write_on.Given as goal

-- the range is written as far as the pieces before this one hold it
abbrev pub invariant-loop-index : goal.invariant-loop-index
invariant-loop-index l =
    record {
      order : AreInOrder l.pieces;
      lent : StayLent l.initial.pieces l.pieces;
      own : tests_in is_own l.pieces ≡ tests_in is_own l.initial.pieces;
      prepared : tests_in is_prepared l.pieces ≡ tests_in is_prepared l.initial.pieces;
      size : length (bytes_in l.pieces) ≡ length (bytes_in l.initial.pieces);
      bytes : bytes_in l.pieces ≡ with_bytes (bytes_in l.initial.pieces) l.at (take (min (length l.bytes) (before l.pieces l.index - l.at)) l.bytes);
    }

abbrev pub decreases-loop-index : goal.decreases-loop-index
decreases-loop-index l = length l.pieces - l.index
