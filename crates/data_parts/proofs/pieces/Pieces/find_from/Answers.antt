use Rattle.std.proofs.Common.{◌≡◌, ◌∙◌, ap, sym, subst, length, List, ℕ, arith, ◌+◌}
use Rattle.data_parts.specs.declared.piece.Piece.{Piece}
use Rattle.data_parts.specs.Parts.{bytes_in, before, AreInOrder}
use Rattle.data_parts.proofs.PieceLaws.{like_order, like_before, like_length}
use Rattle.data_parts.proofs.pieces.Pieces.find_from.Goals as goal

pub find_from-requires-clause-order : goal.find_from-requires-clause-order
find_from-requires-clause-order c =
    subst AreInOrder (sym c.as_slice.ensures.value)
    (like_order c.self.inside.list.items c.self.inside.place c.self.inside.opened c.self.invariant.0
    (subst AreInOrder (sym c.self.view_is) c.requires.order))

pub find_from-requires-clause-within : goal.find_from-requires-clause-within
find_from-requires-clause-within c =
    let size : length (bytes_in c.as_slice.result.now)
    ≡ length (bytes_in c.args.self.now) = ap (λ (l : List Piece). length (bytes_in l))
    c.as_slice.ensures.value ∙ like_length c.self.inside.list.items c.self.inside.place c.self.inside.opened
    c.self.invariant.0 ∙ ap (λ (l : List Piece). length (bytes_in l)) c.self.view_is in
    omega arith

-- as many bytes stand before each piece as before the one in its place
same : (c : goal.After-find_from) (k : ℕ) → before c.as_slice.result.now k ≡ before c.args.self.now k
same c k = ap (λ (l : List Piece). before l k) c.as_slice.ensures.value
    ∙ like_before c.self.inside.list.items c.self.inside.place k c.self.inside.opened c.self.invariant.0
    ∙ ap (λ (l : List Piece). before l k) c.self.view_is

pub returns-clause-first : goal.returns-clause-first
returns-clause-first c =
    let at = same c c.find_from.result in
    let first = c.find_from.ensures.first in
    omega arith

pub returns-clause-last : goal.returns-clause-last
returns-clause-last c =
    let at = same c (c.find_from.result + 1) in
    let last = c.find_from.ensures.last in
    omega arith
