use Rattle.std.proofs.Common.{List, [], ◌∷◌, Ok, is_some, sym, ap, ◌∙◌}
use Rattle.std.proofs.lemmas.List.{map-append}
use Rattle.indexmap.proofs.CallerLemmas.{insert_entry-new}
use Rattle.sbpf_asm.specs.Assembly.{Label}
use Rattle.sbpf_asm.specs.Views.{label_view, labels_view, source_view}
use Rattle.sbpf_asm.proofs.Labels.{place_found}
use Rattle.sbpf_asm.proofs.Sources.{repeated, new_label, none_there}
use Rattle.sbpf_asm.proofs.source.Source.add_label.Goals as goal

pub returns-then-contains_key-clause-added : goal.returns-then-contains_key-clause-added
returns-then-contains_key-clause-added c =
    let old = c.args.self.now in
    let name = c.args.name.now in
    repeated c.args.line (source_view old) name _ (ap is_some (place_found name old.labels.entries) ∙ sym c.contains_key.ensures ∙ c.if-contains_key.true)

pub returns-in-Ok-clause-added : goal.returns-in-Ok-clause-added
returns-in-Ok-clause-added c =
    let old = c.args.self.now in
    let name = c.args.name.now in
    let none = sym c.contains_key.ensures ∙ c.if-contains_key.false in
    let grown = ap labels_view (c.in-Ok.ensures.entries
    ∙ insert_entry-new _ old.labels c.args.name old.slots (none_there _ none))
    ∙ map-append label_view old.labels.entries ((c.args.name, old.slots) ∷ []) in
    new_label c.args.line (source_view old) name _ (ap is_some (place_found name old.labels.entries) ∙ none)
    ∙ ap (λ (labels : List Label). Ok (record (source_view old) { labels = labels })) (sym grown)
