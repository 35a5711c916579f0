use Rattle.std.proofs.Common.{length, ◌-◌, ◌≤◌, ◌≡◌, take, drop}
use Rattle.spec_base.specs.Bytes.{with_bytes}
use Rattle.data_parts.specs.Parts.{bytes_in, tests_in, is_own, is_prepared, AreInOrder, StayLent}
use Rattle.data_parts.proofs.moves.move_forward.Given as goal

-- the first bytes are moved
abbrev pub invariant-loop-done : goal.invariant-loop-done
invariant-loop-done l =
    record {
      some : l.done ≤ l.len;
      order : AreInOrder l.pieces;
      lent : StayLent l.initial.pieces l.pieces;
      own : tests_in is_own l.pieces ≡ tests_in is_own l.initial.pieces;
      prepared : tests_in is_prepared l.pieces ≡ tests_in is_prepared l.initial.pieces;
      size : length (bytes_in l.pieces) ≡ length (bytes_in l.initial.pieces);
      bytes : bytes_in l.pieces ≡ with_bytes (bytes_in l.initial.pieces) l.to (take l.done (drop l.from (bytes_in l.initial.pieces)));
    }

abbrev pub decreases-loop-done : goal.decreases-loop-done
decreases-loop-done l = l.len - l.done
