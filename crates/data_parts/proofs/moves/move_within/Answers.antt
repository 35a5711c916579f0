use Rattle.std.proofs.Common.{◌≡◌, ◌≤◌, ◌+◌, ◌-◌, ◌∙◌, ℕ, List, ap, refl, length, get_or, take, drop, arith}
use Rattle.data_parts.specs.declared.piece.Piece.{Piece}
use Rattle.spec_base.specs.Bytes.{with_bytes}
use Rattle.data_parts.specs.Parts.{bytes_in, before, piece_bytes, backing_bytes, is_prepared}
use Rattle.data_parts.proofs.PartLaws.{start_at, order_set, lent_set, tests_kept, read_there, write_there, length_with, range_length}
use Rattle.data_parts.proofs.moves.move_within.Goals as goal

pub overflow_sub-to_place : goal.overflow_sub-to_place
overflow_sub-to_place c =
    let place = start_at c.args.pieces.now c.args.index c.index-pieces-index.result c.requires.order c.requires.index in
    omega arith

-- the piece
x : (c : goal.After-copy_within) → Piece
x c = get_or c.args.pieces.now c.args.index c.index-pieces-index.result

-- the bytes that are moved
moved : (c : goal.After-copy_within) → List ℕ
moved c = take c.args.len (drop (c.args.from - (x c).start) (piece_bytes (x c)))

-- both ranges lie in the piece
from_inside : (c : goal.After-copy_within) → c.args.from - (x c).start + c.args.len ≤ length (piece_bytes (x c))
unfolding x
from_inside c =
    let size = c.len-size.ensures in
    omega arith

to_inside : (c : goal.After-copy_within) → c.args.to - (x c).start + length (moved c) ≤ length (piece_bytes (x c))
unfolding x moved
to_inside c =
    let size = c.len-size.ensures in
    let same : length (take c.args.len (drop (c.args.from - (x c).start) (piece_bytes (x c)))) ≡ c.args.len = range_length (piece_bytes (x c)) (c.args.from - (x c).start) c.args.len (from_inside c) in
    omega arith

-- the piece keeps its length
same_size : (c : goal.After-copy_within) → length (backing_bytes c.copy_within.new.self) ≡ length (piece_bytes (x c))
unfolding x moved
same_size c = ap length c.copy_within.ensures.bytes ∙ length_with (piece_bytes (x c)) (moved c) (c.args.to - (x c).start) (to_inside c)

pub returns-clause-order : goal.returns-clause-order
unfolding x
returns-clause-order c = order_set c.args.pieces.now c.args.index c.index-pieces-index.result _ c.requires.order c.requires.index refl (same_size c)

pub returns-clause-lent : goal.returns-clause-lent
returns-clause-lent c = lent_set c.args.pieces.now c.args.index c.index-pieces-index.result _ c.requires.index refl c.copy_within.ensures.shared

pub returns-clause-all : goal.returns-clause-all
unfolding x moved
returns-clause-all c = λ all.
    let pieces : List Piece = c.args.pieces.now in
    let place = start_at pieces c.args.index c.index-pieces-index.result c.requires.order c.requires.index in
    let is : x c ≡ get_or pieces c.args.index (x c) = ap (λ (piece : Piece). get_or pieces c.args.index piece) c.index-pieces-index.is in
    let first : before pieces c.args.index ≤ c.args.from = omega arith in
    write_there pieces c.args.index c.args.to c.index-pieces-index.result _ (moved c) c.requires.order c.requires.index c.requires.first (to_inside c) c.copy_within.ensures.bytes
    ∙ ap (λ (l : List ℕ). with_bytes (bytes_in pieces) c.args.to l) (read_there pieces c.args.index c.args.from c.args.len (x c) c.requires.order c.requires.index is first (from_inside c))

pub returns-clause-prepared : goal.returns-clause-prepared
unfolding x
returns-clause-prepared c = tests_kept is_prepared c.args.pieces.now c.args.index c.index-pieces-index.result _ c.requires.index (same_size c) c.copy_within.ensures.prepared
