use Rattle.std.proofs.Common.{◌≡◌, ◌≤◌, ◌+◌, ◌-◌, ◌∙◌, ℕ, List, Bool, length, take, drop, sym, ap, subst, arith}
use Rattle.spec_base.specs.Bytes.{with_bytes}
use Rattle.data_parts.specs.Parts.{bytes_in, ArePrepared}
use Rattle.data_parts.proofs.PartLaws.{move_less, within_range, length_with, range_length}
use Rattle.data_parts.proofs.moves.move_backward.Goals as goal

pub move_chunk-requires-clause-own : goal.move_chunk-requires-clause-own
move_chunk-requires-clause-own c =
    let few = c.min-count.ensures in
    subst (λ (answers : List Bool). ArePrepared answers (c.args.to + (c.loop-rest.rest - c.min-count.result)) c.min-count.result) (sym c.loop-rest.invariant.own)
    (within_range _ c.args.to c.args.len (c.loop-rest.rest - c.min-count.result) c.min-count.result (omega (arith, few, c.loop-rest.invariant.some)) c.requires.own)

pub loop-rest-preserved : goal.loop-rest-preserved
loop-rest-preserved c =
    let few = c.min-count.ensures in
    let count : ℕ = c.min-count.result in
    let rest : ℕ = c.loop-rest.rest - count in
    let some : count ≤ c.loop-rest.rest = omega (arith, few) in
    let most : c.loop-rest.rest ≤ c.args.len = c.loop-rest.invariant.some in
    let list : List ℕ = bytes_in c.args.pieces.now in
    let now : List ℕ = bytes_in c.loop-rest.pieces in
    let chunk = range_length now (c.args.from + rest) count (omega (arith, some, most, c.requires.higher, c.requires.to, c.loop-rest.invariant.size)) in
    let size : length (bytes_in c.move_chunk.new.pieces)
    ≡ length now = rw c.move_chunk.ensures.bytes
    (length_with now _ (c.args.to + rest)
    (omega (arith, chunk, some, most, c.requires.to, c.loop-rest.invariant.size))) in
    let done : ℕ = c.args.len - c.loop-rest.rest in
    let past : c.args.to + c.loop-rest.rest ≡ c.args.to + rest + count = omega (arith, some) in
    let source : c.args.from + c.loop-rest.rest ≡ c.args.from + rest + count = omega (arith, some) in
    let was : now ≡ with_bytes list (c.args.to + rest + count) (take done (drop (c.args.from + rest + count) list)) =
    c.loop-rest.invariant.bytes ∙ ap
    (λ n. with_bytes list n (take done (drop (c.args.from + c.loop-rest.rest) list))) past
    ∙ ap (λ n. with_bytes list (c.args.to + rest + count) (take done (drop n list))) source in
    let more : count + done ≡ c.args.len - rest = omega (arith, some, most) in
    record {
      some = omega (arith, most);
      order = c.move_chunk.ensures.order;
      lent = λ lent was. c.move_chunk.ensures.lent lent (c.loop-rest.invariant.lent lent was);
      own = c.move_chunk.ensures.own ∙ c.loop-rest.invariant.own;
      prepared = c.move_chunk.ensures.prepared ∙ c.loop-rest.invariant.prepared;
      size = size ∙ c.loop-rest.invariant.size;
      bytes = c.move_chunk.ensures.bytes
          ∙ move_less list now c.args.to c.args.from rest count done c.requires.higher
          (omega (arith, some, most, c.requires.to)) was
          ∙ ap (λ n. with_bytes list (c.args.to + rest) (take n (drop (c.args.from + rest) list))) more;
    }
