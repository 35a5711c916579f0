use Rattle.std.proofs.Common.{◌≡◌, ◌∙◌, ◌<◌, ◌+◌, ◌-◌, ◌++◌, ap, sym, subst, set, length, List, ℕ, take, drop, arith, length-drop}
use Rattle.std.proofs.lemmas.List.{length-take}
use Rattle.data_parts.specs.declared.piece.Piece.{Piece}
use Rattle.data_parts.specs.Parts.{bytes_in, before, piece_bytes, AreInOrder}
use Rattle.data_parts.proofs.PieceLaws.{like_order, like_before, like_length, read_over}
use Rattle.data_parts.proofs.pieces.Pieces.read_on.Goals as goal

pub read_on-requires-clause-order : goal.read_on-requires-clause-order
read_on-requires-clause-order c =
    subst AreInOrder (sym c.as_slice.ensures.value)
    (like_order c.self.inside.list.items c.self.inside.place c.self.inside.opened c.self.invariant.0
    (subst AreInOrder (sym c.self.view_is) c.requires.order))

pub read_on-requires-clause-first : goal.read_on-requires-clause-first
read_on-requires-clause-first c =
    let same : before c.as_slice.result.now c.args.first
    ≡ before c.args.self.now c.args.first = ap (λ (l : List Piece). before l c.args.first)
    c.as_slice.ensures.value ∙ like_before c.self.inside.list.items c.self.inside.place c.args.first
    c.self.inside.opened c.self.invariant.0
    ∙ ap (λ (l : List Piece). before l c.args.first) c.self.view_is in
    let first = c.requires.first in
    omega arith

pub read_on-requires-clause-within : goal.read_on-requires-clause-within
read_on-requires-clause-within c =
    let same : length (bytes_in c.as_slice.result.now)
    ≡ length (bytes_in c.args.self.now) = ap (λ (l : List Piece). length (bytes_in l))
    c.as_slice.ensures.value ∙ like_length c.self.inside.list.items c.self.inside.place c.self.inside.opened
    c.self.invariant.0 ∙ ap (λ (l : List Piece). length (bytes_in l)) c.self.view_is in
    let within = c.requires.within in
    omega arith

pub read_on-requires-clause-most : goal.read_on-requires-clause-most
read_on-requires-clause-most c =
    let same : length (bytes_in c.as_slice.result.now)
    ≡ length (bytes_in c.args.self.now) = ap (λ (l : List Piece). length (bytes_in l))
    c.as_slice.ensures.value ∙ like_length c.self.inside.list.items c.self.inside.place c.self.inside.opened
    c.self.invariant.0 ∙ ap (λ (l : List Piece). length (bytes_in l)) c.self.view_is in
    let most = c.requires.most in
    omega arith

pub returns-then-self-len : goal.returns-then-self-len
returns-then-self-len c =
    let list : List Piece = c.self.inside.list.items in
    let place : ℕ = c.self.inside.place in
    let x : Piece = c.self.inside.opened in
    let into : List ℕ = c.read_on.new.into in
    let meets = c.meet-meeting.ensures in
    let meeting = c.meet-meeting.result in
    let done : ℕ = meeting.done in
    let count : ℕ = meeting.count in
    let len : length into ≡ length c.args.into.now = c.read_on.auto.into in
    let some : done + count - done ≡ count = omega arith in
    let part : length (take (done + count - done) (drop done into)) ≡ count = omega (arith, length-take {A = ℕ}, length-drop {A = ℕ}) in
    let read : c.read.new.into ≡ take count (drop meeting.from (piece_bytes x)) = c.read.ensures ∙ ap (λ (n : ℕ). take n (drop meeting.from (piece_bytes x))) part in
    let was : into ≡ take (length into) (drop c.args.at (bytes_in list)) = c.read_on.ensures
    ∙ ap (λ (n : ℕ). take n (drop c.args.at (bytes_in c.as_slice.result.now))) (sym len)
    ∙ ap (λ (l : List Piece). take (length into) (drop c.args.at (bytes_in l))) c.as_slice.ensures.value in
    let order : AreInOrder (set list place x) = subst AreInOrder (sym c.self.view_is) c.requires.order in
    let view = ap (λ (l : List Piece). length (bytes_in l)) c.self.view_is in
    let within = c.requires.within in
    let h : place < length list = omega arith in
    ap (λ (l : List ℕ). take done into ++ (l ++ drop (done + count - done) (drop done into))) read
    ∙ ap (λ (n : ℕ). take done into
    ++ (take count (drop meeting.from (piece_bytes x)) ++ drop n (drop done into))) some
    ∙ read_over list place c.args.at meeting.from done count x into c.self.invariant.0 order h (omega arith)
    meets.piece meets.range meets.same meets.first meets.last was
    ∙ ap (λ (n : ℕ). take n (drop c.args.at (bytes_in (set list place x)))) len
    ∙ ap (λ (l : List Piece). take (length c.args.into.now) (drop c.args.at (bytes_in l))) c.self.view_is
