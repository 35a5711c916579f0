use Rattle.std.proofs.Common.{ℕ, length, ◌-◌, ◌≡◌, false, min}
use Rattle.data_parts.specs.Parts.{bytes_in, tests_in, before, is_own, is_prepared, test_of, AreInOrder, ArePrepared, StayLent, StayPrepared}
use Rattle.data_parts.proofs.range.own_on.Given as goal

-- the range is ready as far as the pieces before this one hold it
abbrev pub invariant-loop-index : goal.invariant-loop-index
invariant-loop-index l =
    record {
      order : AreInOrder l.pieces;
      lent : StayLent l.initial.pieces l.pieces;
      bytes : bytes_in l.pieces ≡ bytes_in l.initial.pieces;
      starts : (index : ℕ) → before l.pieces index ≡ before l.initial.pieces index;
      ready : ArePrepared (tests_in (test_of l.prepare) l.pieces) l.at (min l.len (before l.pieces l.index - l.at));
      plain : l.prepare ≡ false → tests_in is_prepared l.pieces ≡ tests_in is_prepared l.initial.pieces;
      stay : StayPrepared (tests_in is_prepared l.initial.pieces) (tests_in is_prepared l.pieces);
      own : StayPrepared (tests_in is_own l.initial.pieces) (tests_in is_own l.pieces);
    }

abbrev pub decreases-loop-index : goal.decreases-loop-index
decreases-loop-index l = length l.pieces - l.index
