use Rattle.std.proofs.Common.{◌≡◌, ◌∙◌, ap, sym, subst, List, rules}
use Rattle.std.proofs.lemmas.List.{with_items_is, places}
use Rattle.std.specs.Prelude.{OnOk}
use Rattle.std.specs.Vec.{with_items}
use Rattle.data_parts.specs.declared.piece.Piece.{Piece}
use Rattle.data_parts.specs.Parts.{bytes_in, tests_in, is_prepared, AreInOrder, AreLentBy, ArePrepared, StayPrepared}
use Rattle.data_parts.proofs.PartLaws.{prepared_are_own}
use Rattle.data_parts.proofs.pieces.Pieces.prepare.Goals as goal

pub returns-clause-ok : goal.returns-clause-ok
returns-clause-ok c =
    let pieces : List Piece = c.own_on-ready.new.pieces in
    let items : (with_items c.take-list.result pieces).items ≡ pieces = with_items_is c.take-list.result pieces (search (rules, places)) in
    let same : c.of.result ≡ pieces = c.of.ensures ∙ items in
    subst (λ (l : List Piece). OnOk c.own_on-ready.result (ArePrepared (tests_in is_prepared l) c.args.at c.args.len)) (sym same) c.own_on-ready.ensures.ok

pub returns-clause-ready : goal.returns-clause-ready
returns-clause-ready c = λ prepared.
    let pieces : List Piece = c.as_mut_slice.result.now in
    let same : tests_in is_prepared pieces ≡ tests_in is_prepared c.args.self.now = ap (λ (l : List Piece). tests_in is_prepared l) (c.as_mut_slice.ensures.value ∙ c.take-list.ensures) in
    c.own_on-ready.ensures.ready (prepared_are_own pieces (tests_in is_prepared c.args.self.now) c.args.at c.args.len same prepared)

pub returns-clause-order : goal.returns-clause-order
returns-clause-order c =
    let is : c.of.result ≡ c.own_on-ready.new.pieces = c.of.ensures ∙ with_items_is c.take-list.result c.own_on-ready.new.pieces (search (rules, places)) in
    subst AreInOrder (sym is) c.own_on-ready.ensures.order

pub returns-clause-lent : goal.returns-clause-lent
returns-clause-lent c = λ lent all.
    let is : c.of.result ≡ c.own_on-ready.new.pieces = c.of.ensures ∙ with_items_is c.take-list.result c.own_on-ready.new.pieces (search (rules, places)) in
    let was : c.as_mut_slice.result.now ≡ c.args.self.now = c.as_mut_slice.ensures.value ∙ c.take-list.ensures in
    subst (AreLentBy lent) (sym is) (c.own_on-ready.ensures.lent lent (subst (AreLentBy lent) (sym was) all))

pub returns-clause-bytes : goal.returns-clause-bytes
returns-clause-bytes c =
    let is : c.of.result ≡ c.own_on-ready.new.pieces = c.of.ensures ∙ with_items_is c.take-list.result c.own_on-ready.new.pieces (search (rules, places)) in
    let was : c.as_mut_slice.result.now ≡ c.args.self.now = c.as_mut_slice.ensures.value ∙ c.take-list.ensures in
    ap bytes_in is ∙ c.own_on-ready.ensures.bytes ∙ ap bytes_in was

pub returns-clause-stay : goal.returns-clause-stay
returns-clause-stay c =
    let is : c.of.result ≡ c.own_on-ready.new.pieces = c.of.ensures ∙ with_items_is c.take-list.result c.own_on-ready.new.pieces (search (rules, places)) in
    let was : c.as_mut_slice.result.now ≡ c.args.self.now = c.as_mut_slice.ensures.value ∙ c.take-list.ensures in
    subst (λ (l : List Piece). StayPrepared (tests_in is_prepared c.args.self.now) (tests_in is_prepared l)) (sym is)
    (subst (λ (l : List Piece). StayPrepared (tests_in is_prepared l) (tests_in is_prepared c.own_on-ready.new.pieces)) was c.own_on-ready.ensures.stay)
