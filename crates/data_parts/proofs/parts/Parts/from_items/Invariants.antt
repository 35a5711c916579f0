use Rattle.std.proofs.Common.{length, ◌≡◌, ◌++◌, false, replicate}
use Rattle.std.specs.Vec.Iter.{into_iter_items}
use Rattle.data_parts.specs.Parts.{bytes_in, bytes_of, lent_from, tests_in, is_prepared, AreInOrder, AreLentBy}
use Rattle.data_parts.proofs.parts.Parts.from_items.Given as goal

-- the pieces have the bytes of the parts that came so far
abbrev pub invariant-loop-part : goal.invariant-loop-part
invariant-loop-part l =
    record {
      all : l.yielded ++ into_iter_items l.part-iterator ≡ l.fn.parts;
      order : AreInOrder l.pieces.items;
      bytes : bytes_in l.pieces.items ≡ bytes_of l.yielded;
      plain : tests_in is_prepared l.pieces.items ≡ replicate (length (bytes_in l.pieces.items)) false;
      lent : AreLentBy (lent_from 0 l.yielded) l.pieces.items;
      size : l.len ≡ length (bytes_in l.pieces.items);
    }
