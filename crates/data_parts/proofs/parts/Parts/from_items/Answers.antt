use Rattle.std.proofs.Common.{◌≡◌, ◌∙◌, ◌++◌, ◌+◌, ◌≤◌, ◌∷◌, [], List, ap, sym, subst, false, replicate, length, arith, append_assoc, length-append}
use Rattle.std.specs.Vec.Iter.{into_iter_items}
use Rattle.data_parts.specs.declared.parts.Part.{Part}
use Rattle.data_parts.specs.declared.piece.Piece.{Piece}
use Rattle.data_parts.specs.Parts.{bytes_in, bytes_of, part_bytes, piece_bytes, tests_in, is_prepared, lent_from, AreInOrder, AreLentBy}
use Rattle.data_parts.proofs.PartLaws.{order_push, bytes_push, parts_push, plain_push, parts_bound, no_order, no_tests, no_bytes, no_parts, no_lent, lent_push}
use Rattle.data_parts.proofs.parts.Parts.from_items.Goals as goal

pub loop-part-init : goal.loop-part-init
loop-part-init c =
    let none = c.in_ok-pieces.ensures.items in
    let empty : bytes_in c.in_ok-pieces.pieces.items ≡ [] = ap bytes_in none ∙ no_bytes in
    record {
      all = c.into_iter-part-iterator.ensures.into_iter_gives.0 ∙ c.into_vec-part-items.ensures;
      order = subst AreInOrder (sym none) no_order;
      bytes = empty ∙ sym no_parts;
      plain = ap (tests_in is_prepared) none ∙ no_tests is_prepared ∙ ap (λ (l : List _). replicate (length l) false) (sym empty);
      lent = subst (AreLentBy (lent_from 0 [])) (sym none) (no_lent (lent_from 0 []));
      size = ap length (sym empty);
    }

pub overflow_add-len : goal.overflow_add-len
overflow_add-len c =
    let yielded : List Part = c.loop-part.yielded in
    let left : List Part = into_iter_items c.next.new.self in
    let split : yielded ++ c.in-Some.part ∷ left ≡ c.args.parts = ap (λ (l : List Part). yielded ++ l) (sym c.in-Some.ensures.steps.0) ∙ c.loop-part.invariant.all in
    let bound : length (bytes_of yielded) + length (part_bytes c.in-Some.part) ≤ length
    (bytes_of c.args.parts) = subst
    (λ (l : List Part). length (bytes_of yielded) + length (part_bytes c.in-Some.part) ≤ length
    (bytes_of l)) split (parts_bound yielded left c.in-Some.part) in
    let before_it = ap length c.loop-part.invariant.bytes in
    let part = ap length c.of_part-backing.ensures.bytes in
    omega arith

pub loop-part-preserved : goal.loop-part-preserved
loop-part-preserved c =
    let yielded : List Part = c.loop-part.yielded in
    let left : List Part = into_iter_items c.next.new.self in
    let pieces : List Piece = c.loop-part.pieces.items in
    let y : Piece = record { start = c.loop-part.len; backing = c.of_part-backing.result } in
    let split : yielded ++ c.in-Some.part ∷ left ≡ c.args.parts = ap (λ (l : List Part). yielded ++ l) (sym c.in-Some.ensures.steps.0) ∙ c.loop-part.invariant.all in
    let pushed : c.push.new.self.items ≡ pieces ++ y ∷ [] = c.in_ok-push.ensures.items in
    let bytes : bytes_in c.push.new.self.items ≡ bytes_in pieces ++ piece_bytes y = ap bytes_in pushed ∙ bytes_push pieces y in
    let size : length (bytes_in c.push.new.self.items) ≡ length (bytes_in pieces) + length (piece_bytes y) = ap length bytes ∙ length-append (bytes_in pieces) (piece_bytes y) in
    record {
      all = append_assoc yielded (c.in-Some.part ∷ []) left ∙ split;
      order = subst AreInOrder (sym pushed) (order_push pieces y c.loop-part.invariant.order c.loop-part.invariant.size);
      bytes = bytes ∙ ap (λ (l : List _). l ++ piece_bytes y) c.loop-part.invariant.bytes
          ∙ ap (λ (l : List _). bytes_of yielded ++ l) c.of_part-backing.ensures.bytes
          ∙ sym (parts_push yielded c.in-Some.part);
      plain = subst (λ (ps : List Piece). tests_in is_prepared ps ≡ replicate (length (bytes_in ps)) false)
          (sym pushed) (plain_push pieces y c.loop-part.invariant.plain c.of_part-backing.ensures.prepared);
      lent = subst (AreLentBy (lent_from 0 (yielded ++ c.in-Some.part ∷ []))) (sym pushed)
          (lent_push yielded c.in-Some.part pieces y c.loop-part.invariant.lent
          (c.loop-part.invariant.size ∙ ap length c.loop-part.invariant.bytes)
          c.of_part-backing.ensures.shared);
      size = ap (λ n. n + c.len-len.result) c.loop-part.invariant.size ∙ ap (λ n. length (bytes_in pieces) + n) c.len-len.ensures ∙ sym size;
    }
