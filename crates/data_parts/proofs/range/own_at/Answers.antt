use Rattle.std.proofs.Common.{◌≡◌, ◌<◌, ◌+◌, ◌∙◌, ap, refl, List, slice_get, length, get_or, arith}
use Rattle.std.proofs.lemmas.List.{set-get_or}
use Rattle.data_parts.specs.declared.piece.Piece.{Piece}
use Rattle.std.proofs.lemmas.Result.{on_ok_weaker}
use Rattle.data_parts.specs.Parts.{piece_bytes, backing_bytes, tests_in, is_own, is_prepared, test_of}
use Rattle.data_parts.proofs.PartLaws.{start_at, before_more, order_set, lent_set, bytes_kept, starts_kept, tests_kept, stay_set, ready_set, passes_there}
use Rattle.data_parts.proofs.range.own_at.Goals as goal

-- the piece keeps its length
same_size : (c : goal.After-make_own) → length (backing_bytes c.make_own.new.self) ≡ length (piece_bytes (get_or c.args.pieces.now c.args.index c.index-pieces-index.result))
same_size c = ap length c.make_own.ensures.bytes

pub returns-then-meet-eq0-clause-ok : goal.returns-then-meet-eq0-clause-ok
returns-then-meet-eq0-clause-ok c = λ ready place below.
    let meets = c.meet.ensures in
    let start = start_at c.args.pieces.now c.args.index c.index-pieces-index.result c.requires.order c.requires.index in
    let next = before_more c.args.pieces.now c.args.index c.index-pieces-index.result c.requires.index in
    ap (λ (pieces : List Piece). slice_get (tests_in (test_of c.args.prepare) pieces) (c.args.at + place))
    (set-get_or c.args.pieces.now c.args.index c.index-pieces-index.result) ∙ ready place (omega arith)

pub returns-clause-order : goal.returns-clause-order
returns-clause-order c = order_set c.args.pieces.now c.args.index c.index-pieces-index.result _ c.requires.order c.requires.index refl (same_size c)

pub returns-clause-bytes : goal.returns-clause-bytes
returns-clause-bytes c = bytes_kept c.args.pieces.now c.args.index c.index-pieces-index.result _ c.requires.index c.make_own.ensures.bytes

pub returns-clause-starts : goal.returns-clause-starts
returns-clause-starts c = λ place. starts_kept c.args.pieces.now c.args.index place c.index-pieces-index.result _ c.requires.index c.make_own.ensures.bytes

pub returns-clause-ok : goal.returns-clause-ok
returns-clause-ok c = on_ok_weaker c.make_own.result
    (λ passes. ready_set (test_of c.args.prepare) c.args.pieces.now c.args.index c.args.at c.args.len
    c.index-pieces-index.result _ c.requires.index (same_size c) passes) c.make_own.ensures.ok

pub returns-clause-plain : goal.returns-clause-plain
returns-clause-plain c = λ plain. tests_kept is_prepared c.args.pieces.now c.args.index c.index-pieces-index.result _ c.requires.index (same_size c) (c.make_own.ensures.plain plain)

pub returns-clause-stay : goal.returns-clause-stay
returns-clause-stay c = stay_set is_prepared c.args.pieces.now c.args.index c.index-pieces-index.result _ c.requires.index (same_size c) c.make_own.ensures.stay

pub returns-clause-own : goal.returns-clause-own
returns-clause-own c = stay_set is_own c.args.pieces.now c.args.index c.index-pieces-index.result _ c.requires.index (same_size c) c.make_own.ensures.own

pub returns-clause-ready : goal.returns-clause-ready
returns-clause-ready c = λ ready.
    let meeting = c.meet.result in
    let meets = c.meet.ensures in
    let some : 0 < meeting.count = omega (arith, c.if-meet-eq0.false) in
    let same = meets.same some in
    let place = start_at c.args.pieces.now c.args.index c.index-pieces-index.result c.requires.order c.requires.index in
    c.make_own.ensures.ready (passes_there is_own c.args.pieces.now c.args.index c.args.at c.args.len
    meeting.from meeting.done c.index-pieces-index.result c.requires.index ready (omega arith) (omega arith)
    (omega arith))

pub returns-clause-lent : goal.returns-clause-lent
returns-clause-lent c = lent_set c.args.pieces.now c.args.index c.index-pieces-index.result _ c.requires.index refl c.make_own.ensures.shared
