use Rattle.std.proofs.Common.{◌≡◌, ◌∙◌, ap, sym, List, length}
use Rattle.data_parts.specs.declared.piece.Piece.{Piece}
use Rattle.data_parts.specs.Parts.{bytes_in, is_prepared}
use Rattle.data_parts.proofs.PartLaws.{tests_length}
use Rattle.data_parts.proofs.parts.Parts.copy_within.Goals as goal

pub invariant_of-self : goal.invariant_of-self
invariant_of-self c =
    let pieces : List Piece = c.copy_within.new.self in
    let old : List Piece = c.self.inside.pieces in
    let same : length (bytes_in old) ≡ length (bytes_in pieces) = sym (tests_length is_prepared old) ∙ ap length (sym c.copy_within.ensures.prepared) ∙ tests_length is_prepared pieces in
    (c.copy_within.ensures.order, c.copy_within.ensures.lent c.self.inside.lent.value c.self.invariant.1, c.self.invariant.2 ∙ same, c.self.invariant.3)
