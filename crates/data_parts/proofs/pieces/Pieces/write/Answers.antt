use Rattle.std.proofs.Common.{◌≡◌, ◌∙◌, ap, sym, subst, List, length, rules}
use Rattle.std.proofs.lemmas.List.{with_items_is, places}
use Rattle.std.specs.Prelude.{OnOk, OnErr}
use Rattle.spec_base.specs.Bytes.{with_bytes}
use Rattle.data_parts.specs.declared.piece.Piece.{Piece}
use Rattle.data_parts.specs.Parts.{bytes_in, tests_in, is_prepared, AreInOrder, AreLentBy, ArePrepared}
use Rattle.data_parts.proofs.pieces.Pieces.write.Goals as goal

-- in each answer, what was written into are the pieces of the list, and the list is what came of it
pub returns-clause-order : goal.returns-clause-order
returns-clause-order c =
    let is : c.of.result ≡ c.write_range-written.new.pieces = c.of.ensures ∙ with_items_is c.take-list.result c.write_range-written.new.pieces (search (rules, places)) in
    subst AreInOrder (sym is) c.write_range-written.ensures.order

pub returns-clause-lent : goal.returns-clause-lent
returns-clause-lent c = λ lent all.
    let is : c.of.result ≡ c.write_range-written.new.pieces = c.of.ensures ∙ with_items_is c.take-list.result c.write_range-written.new.pieces (search (rules, places)) in
    let was : c.as_mut_slice.result.now ≡ c.args.self.now = c.as_mut_slice.ensures.value ∙ c.take-list.ensures in
    subst (AreLentBy lent) (sym is) (c.write_range-written.ensures.lent lent (subst (AreLentBy lent) (sym was) all))

pub returns-clause-ok : goal.returns-clause-ok
returns-clause-ok c =
    let is : c.of.result ≡ c.write_range-written.new.pieces = c.of.ensures ∙ with_items_is c.take-list.result c.write_range-written.new.pieces (search (rules, places)) in
    let was : c.as_mut_slice.result.now ≡ c.args.self.now = c.as_mut_slice.ensures.value ∙ c.take-list.ensures in
    subst (λ (l : List Piece). OnOk c.write_range-written.result (bytes_in l ≡ with_bytes (bytes_in c.args.self.now) c.args.at c.args.bytes.now)) (sym is)
    (subst (λ (l : List Piece). OnOk c.write_range-written.result
    (bytes_in c.write_range-written.new.pieces ≡ with_bytes (bytes_in l) c.args.at c.args.bytes.now)) was
    c.write_range-written.ensures.ok)

pub returns-clause-err : goal.returns-clause-err
returns-clause-err c =
    let is : c.of.result ≡ c.write_range-written.new.pieces = c.of.ensures ∙ with_items_is c.take-list.result c.write_range-written.new.pieces (search (rules, places)) in
    let was : c.as_mut_slice.result.now ≡ c.args.self.now = c.as_mut_slice.ensures.value ∙ c.take-list.ensures in
    subst (λ (l : List Piece). OnErr c.write_range-written.result (bytes_in l ≡ bytes_in c.args.self.now)) (sym is)
    (subst (λ (l : List Piece). OnErr c.write_range-written.result (bytes_in c.write_range-written.new.pieces ≡ bytes_in l)) was c.write_range-written.ensures.err)

pub returns-clause-prepared : goal.returns-clause-prepared
returns-clause-prepared c =
    let is : c.of.result ≡ c.write_range-written.new.pieces = c.of.ensures ∙ with_items_is c.take-list.result c.write_range-written.new.pieces (search (rules, places)) in
    let was : c.as_mut_slice.result.now ≡ c.args.self.now = c.as_mut_slice.ensures.value ∙ c.take-list.ensures in
    ap (λ (l : List Piece). tests_in is_prepared l) is ∙ c.write_range-written.ensures.prepared ∙ ap (λ (l : List Piece). tests_in is_prepared l) was

pub returns-clause-ready : goal.returns-clause-ready
returns-clause-ready c = λ prepared.
    let was : c.as_mut_slice.result.now ≡ c.args.self.now = c.as_mut_slice.ensures.value ∙ c.take-list.ensures in
    c.write_range-written.ensures.ready (subst (λ (l : List Piece). ArePrepared (tests_in is_prepared l) c.args.at (length c.args.bytes.now)) (sym was) prepared)
