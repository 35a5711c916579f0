use Rattle.std.proofs.Common.{◌≡◌, ◌∙◌, ap, sym, List, length}
use Rattle.data_parts.specs.declared.piece.Piece.{Piece}
use Rattle.data_parts.specs.Parts.{bytes_in, is_prepared}
use Rattle.data_parts.proofs.PartLaws.{same_content, tests_length}
use Rattle.data_parts.proofs.parts.Parts.put_near.Goals as goal

pub invariant_of-self : goal.invariant_of-self
invariant_of-self g c =
    let pieces : List Piece = c.put_near.new.self in
    let old : List Piece = c.self.inside.pieces in
    let same : length (bytes_in old) ≡ length (bytes_in pieces) = sym (tests_length is_prepared old) ∙ ap length (sym c.put_near.ensures.prepared) ∙ tests_length is_prepared pieces in
    (c.put_near.ensures.order, c.put_near.ensures.lent c.self.inside.lent.value c.self.invariant.1, c.self.invariant.2 ∙ same, c.self.invariant.3)

pub returns-clause-none : goal.returns-clause-none
returns-clause-none g c = λ none. same_content _ _ _ _ _ (c.put_near.ensures.none none) c.put_near.ensures.prepared ∙ c.self.view_is
