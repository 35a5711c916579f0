use Rattle.std.proofs.Common.{◌≡◌, ◌≤◌, ◌+◌, ◌∙◌, ℕ, List, Bool, length, sym, subst, arith}
use Rattle.data_parts.specs.Parts.{bytes_in, ArePrepared}
use Rattle.data_parts.proofs.PartLaws.{move_more, within_range, length_with, range_length}
use Rattle.data_parts.proofs.moves.move_forward.Goals as goal

pub move_chunk-requires-clause-own : goal.move_chunk-requires-clause-own
move_chunk-requires-clause-own c =
    let few = c.min-count.ensures in
    subst (λ (answers : List Bool). ArePrepared answers (c.args.to + c.loop-done.done) c.min-count.result) (sym c.loop-done.invariant.own)
    (within_range _ c.args.to c.args.len c.loop-done.done c.min-count.result (omega (arith, few, c.loop-done-test.true)) c.requires.own)

pub loop-done-preserved : goal.loop-done-preserved
loop-done-preserved c =
    let few = c.min-count.ensures in
    let inside : c.loop-done.done + c.min-count.result ≤ c.args.len = omega (arith, few, c.loop-done-test.true) in
    let now : List ℕ = bytes_in c.loop-done.pieces in
    let chunk = range_length now (c.args.from + c.loop-done.done) c.min-count.result (omega (arith, inside, c.requires.from, c.loop-done.invariant.size)) in
    let size : length (bytes_in c.move_chunk.new.pieces)
    ≡ length now = rw c.move_chunk.ensures.bytes
    (length_with now _ (c.args.to + c.loop-done.done)
    (omega (arith, chunk, inside, c.requires.lower, c.requires.from, c.loop-done.invariant.size))) in
    record {
      some = inside;
      order = c.move_chunk.ensures.order;
      lent = λ lent was. c.move_chunk.ensures.lent lent (c.loop-done.invariant.lent lent was);
      own = c.move_chunk.ensures.own ∙ c.loop-done.invariant.own;
      prepared = c.move_chunk.ensures.prepared ∙ c.loop-done.invariant.prepared;
      size = size ∙ c.loop-done.invariant.size;
      bytes = c.move_chunk.ensures.bytes
          ∙ move_more _ now c.args.to c.args.from c.loop-done.done c.min-count.result c.requires.lower
          (omega (arith, inside, c.requires.from)) c.loop-done.invariant.bytes;
    }
