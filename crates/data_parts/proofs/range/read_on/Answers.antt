use Rattle.std.proofs.Common.{◌≡◌, ◌+◌, ◌-◌, ◌∙◌, ◌++◌, ap, ℕ, List, length, take, drop, arith, length-drop}
use Rattle.std.proofs.lemmas.List.{length-take}
use Rattle.data_parts.specs.Parts.{piece_bytes, bytes_in, before}
use Rattle.data_parts.proofs.PartLaws.{read_step, read_end, start_at}
use Rattle.data_parts.proofs.range.read_on.Goals as goal

pub loop-index-preserved : goal.loop-index-preserved
loop-index-preserved c =
    let meeting = c.meet-meeting.result in
    let meets = c.meet-meeting.ensures in
    let piece = c.index-pieces-index-in-loop-index.result in
    let into : List ℕ = c.loop-index.into in
    let done : ℕ = meeting.done in
    let count : ℕ = meeting.count in
    let old : List ℕ = piece_bytes piece in
    let some : done + count - done ≡ count = omega arith in
    let size : length (take (done + count - done) (drop done into)) ≡ count = omega (arith, length-take {A = ℕ}, length-drop {A = ℕ}) in
    let read : c.read.new.into ≡ take count (drop meeting.from old) = c.read.ensures ∙ ap (λ (n : ℕ). take n (drop meeting.from old)) size in
    ap (λ (l : List ℕ). take done into ++ (l ++ drop (done + count - done) (drop done into))) read
    ∙ ap (λ (n : ℕ). take done into ++ (take count (drop meeting.from old) ++ drop n (drop done into))) some
    ∙ read_step c.args.pieces.now c.loop-index.index c.args.at meeting.from done count piece into
    c.args.into.now c.requires.order c.loop-index-test.true c.index-pieces-index-in-loop-index.is
    c.requires.within c.loop-index.auto.into meets.piece meets.range meets.same meets.first meets.last
    c.loop-index.invariant

pub returns-else-pieces-index : goal.returns-else-pieces-index
returns-else-pieces-index c =
    let start = start_at c.args.pieces.now c.loop-index.index c.index-pieces-index.result c.requires.order c.loop-index-test.true in
    read_end (bytes_in c.args.pieces.now) c.loop-index.into c.args.into.now c.args.at (before c.args.pieces.now c.loop-index.index) (omega arith) c.loop-index.invariant
