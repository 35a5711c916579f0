use Rattle.std.proofs.Common.{All, IsUtf8, List, subst, sym}
use Rattle.std.specs.List.{AllByRecursion}
use Rattle.std.proofs.lemmas.List.Elements.{recursion_from_All}
use Rattle.block_record.specs.declared.block.Entry.{Entry}
use Rattle.text_views.proofs.view.view_entry.Goals as goal

pub signed_in-requires : goal.signed_in-requires
signed_in-requires c =
    subst (λ (entries : List Entry). AllByRecursion (λ (entry : Entry). All IsUtf8 entry.lines) entries) (sym c.as_slice.ensures)
    (recursion_from_All (λ (entry : Entry). All IsUtf8 entry.lines) c.args.block.now.entries c.requires)
