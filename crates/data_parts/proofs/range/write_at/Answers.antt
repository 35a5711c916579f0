use Rattle.std.proofs.Common.{◌≡◌, ◌+◌, ◌<◌, ◌≤◌, ◌-◌, List, take, drop, ◌∙◌, ap, refl, ℕ, length, get_or, arith}
use Rattle.std.proofs.lemmas.List.{length-take}
use Rattle.data_parts.specs.Parts.{piece_bytes, backing_bytes, is_own, is_prepared}
use Rattle.data_parts.proofs.PartLaws.{write_step, passes_there, start_at, order_set, lent_set, before_kept, tests_kept, length_with}
use Rattle.data_parts.proofs.range.write_at.Goals as goal

pub write-requires-clause-own : goal.write-requires-clause-own
write-requires-clause-own c = λ some.
    let meeting = c.meet-meeting.result in
    let meets = c.meet-meeting.ensures in
    let count : 0 < meeting.count = omega (arith, length-take {A = ℕ}, some) in
    let same = meets.same count in
    let place = start_at c.args.pieces.now c.args.index c.index-pieces-index.result c.requires.order c.requires.index in
    passes_there is_own c.args.pieces.now c.args.index c.args.at _ meeting.from meeting.done c.index-pieces-index.result c.requires.index c.requires.own (omega arith) (omega arith) (omega arith)

-- the piece keeps its length
same_size : (c : goal.After-write) → length (backing_bytes c.write.new.self) ≡ length (piece_bytes (get_or c.args.pieces.now c.args.index c.index-pieces-index.result))
same_size c =
    let meeting = c.meet-meeting.result in
    let meets = c.meet-meeting.ensures in
    let part : List ℕ = take (meeting.done + meeting.count - meeting.done) (drop meeting.done c.args.bytes.now) in
    let size : length part ≤ meeting.count = omega (arith, length-take {A = ℕ}) in
    ap length c.write.ensures.bytes ∙ length_with _ part meeting.from (omega arith)

pub returns-clause-order : goal.returns-clause-order
returns-clause-order c = order_set c.args.pieces.now c.args.index c.index-pieces-index.result _ c.requires.order c.requires.index refl (same_size c)

pub returns-clause-before : goal.returns-clause-before
returns-clause-before c = before_kept c.args.pieces.now c.args.index c.index-pieces-index.result _ c.requires.index (same_size c)

pub returns-clause-own : goal.returns-clause-own
returns-clause-own c = tests_kept is_own c.args.pieces.now c.args.index c.index-pieces-index.result _ c.requires.index (same_size c) c.write.ensures.own

pub returns-clause-prepared : goal.returns-clause-prepared
returns-clause-prepared c = tests_kept is_prepared c.args.pieces.now c.args.index c.index-pieces-index.result _ c.requires.index (same_size c) c.write.ensures.prepared

pub returns-clause-bytes : goal.returns-clause-bytes
returns-clause-bytes c =
    let meeting = c.meet-meeting.result in
    let meets = c.meet-meeting.ensures in
    write_step c.args.pieces.now c.args.index c.args.at meeting.from meeting.done meeting.count
    c.index-pieces-index.result _ c.args.bytes.now c.requires.order c.requires.index c.requires.within
    meets.piece meets.range meets.same meets.first meets.last c.write.ensures.bytes

pub returns-clause-lent : goal.returns-clause-lent
returns-clause-lent c = lent_set c.args.pieces.now c.args.index c.index-pieces-index.result _ c.requires.index refl c.write.ensures.shared
