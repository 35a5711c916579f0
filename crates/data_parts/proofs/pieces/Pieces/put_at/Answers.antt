use Rattle.std.proofs.Common.{◌<◌, ◌≤◌, ◌≢◌, ◌∙◌, ap, sym, subst, true, length, List, ℕ, arith}
use Rattle.std.proofs.lemmas.List.{length-set}
use Rattle.data_parts.specs.declared.piece.Piece.{Piece}
use Rattle.spec_base.specs.Bytes.{with_bytes}
use Rattle.data_parts.specs.Parts.{bytes_in, tests_in, is_blank, is_prepared, AreInOrder, AreLentBy}
use Rattle.data_parts.proofs.PieceLaws.{near_kept, near_lands, lands_order, lands_tests, lands_bytes, lands_lent, lands_write}
use Rattle.data_parts.proofs.pieces.Pieces.put_at.Goals as goal

pub invariant_of-self : goal.invariant_of-self
invariant_of-self g c =
    let list : List Piece = c.self.inside.list.items in
    let h : c.args.near < length list = omega arith in (
      near_kept list c.self.inside.place c.args.near c.self.inside.opened c.index_mut.result.now c.put.new.self
          c.self.invariant.0 h c.index_mut.ensures.value c.put.ensures.kept,
      λ past. c.self.invariant.1
          (subst (λ (n : ℕ). n ≤ c.self.inside.place) (length-set list c.args.near c.put.new.self) past),
    )

pub returns-clause-order : goal.returns-clause-order
returns-clause-order g c =
    let list : List Piece = c.self.inside.list.items in
    let h : c.args.near < length list = omega arith in
    let lands = near_lands list c.self.inside.place c.args.near c.self.inside.opened c.index_mut.result.now c.put.new.self c.self.invariant.0 h c.index_mut.ensures.value c.put.ensures.kept in
    lands_order list c.self.inside.place c.args.near c.self.inside.opened c.index_mut.result.now c.put.new.self
    lands h (subst AreInOrder (sym c.self.view_is) c.requires.order) c.put.ensures.start c.put.ensures.size

pub returns-clause-prepared : goal.returns-clause-prepared
returns-clause-prepared g c =
    let list : List Piece = c.self.inside.list.items in
    let h : c.args.near < length list = omega arith in
    let lands = near_lands list c.self.inside.place c.args.near c.self.inside.opened c.index_mut.result.now c.put.new.self c.self.invariant.0 h c.index_mut.ensures.value c.put.ensures.kept in
    lands_tests is_prepared list c.self.inside.place c.args.near c.self.inside.opened c.index_mut.result.now
    c.put.new.self lands h c.put.ensures.size c.put.ensures.prepared
    ∙ ap (λ (l : List Piece). tests_in is_prepared l) c.self.view_is

pub returns-clause-all : goal.returns-clause-all
returns-clause-all g c = λ all.
    let list : List Piece = c.self.inside.list.items in
    let h : c.args.near < length list = omega arith in
    let lands = near_lands list c.self.inside.place c.args.near c.self.inside.opened c.index_mut.result.now c.put.new.self c.self.invariant.0 h c.index_mut.ensures.value c.put.ensures.kept in
    let full : is_blank c.index_mut.result.now.backing ≢ true = λ blank. let no = c.put.ensures.never blank in absurd (cc) in
    lands_write list c.self.inside.place c.args.near c.args.at c.self.inside.opened c.index_mut.result.now
    c.put.new.self c.args.put lands h full (subst AreInOrder (sym c.self.view_is) c.requires.order)
    (c.put.ensures.first all) (c.put.ensures.within all) (c.put.ensures.all all)
    ∙ ap (λ (l : List Piece). with_bytes (bytes_in l) c.args.at c.args.put) c.self.view_is

pub returns-clause-none : goal.returns-clause-none
returns-clause-none g c = λ none.
    let list : List Piece = c.self.inside.list.items in
    let h : c.args.near < length list = omega arith in
    let lands = near_lands list c.self.inside.place c.args.near c.self.inside.opened c.index_mut.result.now c.put.new.self c.self.invariant.0 h c.index_mut.ensures.value c.put.ensures.kept in
    lands_bytes list c.self.inside.place c.args.near c.self.inside.opened c.index_mut.result.now c.put.new.self lands h (c.put.ensures.none none) ∙ ap bytes_in c.self.view_is

pub returns-clause-lent : goal.returns-clause-lent
returns-clause-lent g c = λ lent was.
    let list : List Piece = c.self.inside.list.items in
    let h : c.args.near < length list = omega arith in
    let lands = near_lands list c.self.inside.place c.args.near c.self.inside.opened c.index_mut.result.now c.put.new.self c.self.invariant.0 h c.index_mut.ensures.value c.put.ensures.kept in
    lands_lent list c.self.inside.place c.args.near c.self.inside.opened c.index_mut.result.now c.put.new.self
    lands h c.put.ensures.start c.put.ensures.shared lent (subst (AreLentBy lent) (sym c.self.view_is) was)
