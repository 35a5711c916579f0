use Rattle.std.proofs.Common.{◌≡◌, ◌≤◌, ◌+◌, ◌-◌, ◌∙◌, ap, refl, length, get_or, arith}
use Rattle.data_parts.specs.Parts.{piece_bytes, backing_bytes, is_prepared}
use Rattle.data_parts.proofs.PartLaws.{start_at, order_set, lent_set, tests_kept, write_there, length_with}
use Rattle.data_parts.proofs.range.write_within.Goals as goal

pub overflow_sub-from : goal.overflow_sub-from
overflow_sub-from c =
    let place = start_at c.args.pieces.now c.args.index c.index-pieces-index.result c.requires.order c.requires.index in
    omega arith

-- the bytes have room in the piece
inside : (c : goal.After-write)
    → c.args.at - (get_or c.args.pieces.now c.args.index c.index-pieces-index.result).start + length
    c.args.bytes.now ≤ length (piece_bytes (get_or c.args.pieces.now c.args.index c.index-pieces-index.result))
inside c =
    let size = c.len.ensures in
    omega arith

-- the piece keeps its length
same_size : (c : goal.After-write) → length (backing_bytes c.write.new.self) ≡ length (piece_bytes (get_or c.args.pieces.now c.args.index c.index-pieces-index.result))
same_size c = ap length c.write.ensures.bytes ∙ length_with _ c.args.bytes.now _ (inside c)

pub returns-clause-order : goal.returns-clause-order
returns-clause-order c = order_set c.args.pieces.now c.args.index c.index-pieces-index.result _ c.requires.order c.requires.index refl (same_size c)

pub returns-clause-prepared : goal.returns-clause-prepared
returns-clause-prepared c = tests_kept is_prepared c.args.pieces.now c.args.index c.index-pieces-index.result _ c.requires.index (same_size c) c.write.ensures.prepared

pub returns-clause-all : goal.returns-clause-all
returns-clause-all c = λ all. write_there c.args.pieces.now c.args.index c.args.at c.index-pieces-index.result _
    c.args.bytes.now c.requires.order c.requires.index c.requires.first (inside c) c.write.ensures.bytes

pub returns-clause-lent : goal.returns-clause-lent
returns-clause-lent c = lent_set c.args.pieces.now c.args.index c.index-pieces-index.result _ c.requires.index refl c.write.ensures.shared
