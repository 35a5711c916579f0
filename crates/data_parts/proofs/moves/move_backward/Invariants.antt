use Rattle.std.proofs.Common.{length, ◌-◌, ◌+◌, ◌≤◌, ◌≡◌, take, drop}
use Rattle.spec_base.specs.Bytes.{with_bytes}
use Rattle.data_parts.specs.Parts.{bytes_in, tests_in, is_own, is_prepared, AreInOrder, StayLent}
use Rattle.data_parts.proofs.moves.move_backward.Given as goal

-- the last bytes are moved
abbrev pub invariant-loop-rest : goal.invariant-loop-rest
invariant-loop-rest l =
    record {
      some : l.rest ≤ l.len;
      order : AreInOrder l.pieces;
      lent : StayLent l.initial.pieces l.pieces;
      own : tests_in is_own l.pieces ≡ tests_in is_own l.initial.pieces;
      prepared : tests_in is_prepared l.pieces ≡ tests_in is_prepared l.initial.pieces;
      size : length (bytes_in l.pieces) ≡ length (bytes_in l.initial.pieces);
      bytes : bytes_in l.pieces ≡ with_bytes (bytes_in l.initial.pieces) (l.to + l.rest) (take (l.len - l.rest) (drop (l.from + l.rest) (bytes_in l.initial.pieces)));
    }

abbrev pub decreases-loop-rest : goal.decreases-loop-rest
decreases-loop-rest l = l.rest
