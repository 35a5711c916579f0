use Rattle.std.proofs.Common.{◌∙◌, ap, sym, subst, length, List, inl, inr}
use Rattle.std.proofs.lemmas.Bool.{cases_lt}
use Rattle.data_parts.specs.declared.piece.Piece.{Piece}
use Rattle.spec_base.specs.Bytes.{with_bytes}
use Rattle.data_parts.specs.Parts.{bytes_in, tests_in, is_prepared, AreInOrder, AreLentBy}
use Rattle.data_parts.proofs.PieceLaws.{apart_order, apart_tests, apart_bytes, apart_lent, apart_write}
use Rattle.data_parts.proofs.pieces.Pieces.put.Goals as goal

pub returns-clause-order : goal.returns-clause-order
returns-clause-order g c =
    apart_order c.self.inside.list.items c.self.inside.place c.self.inside.opened c.put.new.self (subst AreInOrder (sym c.self.view_is) c.requires.order) c.put.ensures.start c.put.ensures.size

pub returns-clause-prepared : goal.returns-clause-prepared
returns-clause-prepared g c =
    apart_tests is_prepared c.self.inside.list.items c.self.inside.place c.self.inside.opened c.put.new.self
    c.put.ensures.size c.put.ensures.prepared
    ∙ ap (λ (l : List Piece). tests_in is_prepared l) c.self.view_is

pub returns-clause-all : goal.returns-clause-all
returns-clause-all g c = λ all.
    let list : List Piece = c.self.inside.list.items in
    elim (cases_lt c.self.inside.place (length list)) [
      | inl h ↦ apart_write list c.self.inside.place c.args.at c.self.inside.opened c.put.new.self c.args.put h
          (subst AreInOrder (sym c.self.view_is) c.requires.order) (c.put.ensures.first all)
          (c.put.ensures.within all) (c.put.ensures.all all)
          ∙ ap (λ (l : List Piece). with_bytes (bytes_in l) c.args.at c.args.put) c.self.view_is
      | inr h ↦ let no = c.put.ensures.never (c.self.invariant.1 h) in absurd (cc)
    ]

pub returns-clause-none : goal.returns-clause-none
returns-clause-none g c = λ none.
    apart_bytes c.self.inside.list.items c.self.inside.place c.self.inside.opened c.put.new.self (c.put.ensures.none none) ∙ ap bytes_in c.self.view_is

pub returns-clause-lent : goal.returns-clause-lent
returns-clause-lent g c = λ lent all.
    apart_lent c.self.inside.list.items c.self.inside.place c.self.inside.opened c.put.new.self c.put.ensures.start c.put.ensures.shared lent (subst (AreLentBy lent) (sym c.self.view_is) all)
