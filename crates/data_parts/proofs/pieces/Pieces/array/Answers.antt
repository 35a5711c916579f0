use Rattle.std.proofs.Common.{◌≡◌, ◌∙◌, ◌<◌, ◌≤◌, ◌+◌, ap, sym, subst, length, List, ℕ, take, drop, true, ◌≢◌, get_or, inl, inr, rules, arith}
use Rattle.std.specs.Prelude.{IfSome, Some, None, Option}
use Rattle.std.proofs.lemmas.List.{length-set}
use Rattle.std.proofs.lemmas.Bool.{cases_lt}
use Rattle.std.proofs.lemmas.Option.{IfSome_then}
use Rattle.data_parts.specs.declared.piece.Piece.{Piece}
use Rattle.data_parts.specs.Parts.{bytes_in, before, is_blank, AreInOrder, ArrayStandsIn, ArrayStandsAt}
use Rattle.data_parts.proofs.PartLaws.{item_start, read_there}
use Rattle.data_parts.proofs.PieceLaws.{in_list, apart_is, piece_within}
use Rattle.data_parts.proofs.pieces.Pieces.array.Goals as goal

-- an answer is not both none and some
not_both : (answer : Option (List ℕ)) (found : List ℕ) → answer ≡ Some found → answer ≢ None
not_both answer found some none = absurd (cc)

-- N bytes of a piece are those of the list
there : (pieces all : List Piece) (i at N : ℕ) (x : Piece) (found : List ℕ) → pieces ≡ all → AreInOrder all
    → i < length pieces → x ≡ get_or pieces i x → ArrayStandsAt x at N found
    → ArrayStandsIn (bytes_in all) at N found
there pieces all i at N x found same order h is stands =
    let kept : AreInOrder pieces = subst AreInOrder (sym same) order in
    let start = item_start pieces i x kept h is in
    let first : before pieces i ≤ at = omega (arith, stands.0) in
    let within : at + N ≤ length (bytes_in all) = subst (λ (l : List Piece). at + N ≤ length (bytes_in l)) same (piece_within pieces i at N x kept h is stands.0 stands.1.0) in
    (within, stands.1.1 ∙ read_there pieces i at N x kept h is first stands.1.0 ∙ ap (λ (l : List Piece). take N (drop at (bytes_in l))) same)

pub returns-in-Some : goal.returns-in-Some
returns-in-Some g c =
    let list : List Piece = c.self.inside.list.items in
    let x : Piece = c.index.result.now in
    let full : is_blank x.backing ≢ true = λ blank. not_both c.array.result c.in-Some.bytes c.in-Some.is (c.array.ensures.blank blank) in
    let h : c.args.near < length list = omega arith in
    let is = in_list list c.self.inside.place c.args.near c.self.inside.opened x c.self.invariant.0 h (c.index.ensures) full in
    there _ c.args.self.now c.args.near c.args.at g.row.N x c.in-Some.bytes c.self.view_is c.requires.order (rw length-set h) is c.in-Some.ensures.bytes

pub returns : goal.returns
returns g c =
    let list : List Piece = c.self.inside.list.items in
    elim (cases_lt c.self.inside.place (length list)) [
      | inl h ↦ IfSome_then c.array-2.result c.array-2.ensures.bytes (λ found stands.
          there _ c.args.self.now c.self.inside.place c.args.at g.row.N c.self.inside.opened found
          c.self.view_is c.requires.order (rw length-set h)
          (apart_is list c.self.inside.place c.self.inside.opened h) stands)
      | inr h ↦ subst (λ (answer : Option (List ℕ)). IfSome answer (ArrayStandsIn (bytes_in c.args.self.now) c.args.at g.row.N)) (sym (c.array-2.ensures.blank (c.self.invariant.1 h))) (search rules)
    ]
