use Rattle.std.proofs.Common.{List, map, ap, ◌∙◌}
use Rattle.std.proofs.lemmas.List.{take_all}
use Rattle.serde_json.specs.Data.{Data, array}
use Rattle.serde_json.specs.View.{items_of}
use Rattle.bank_show.specs.Show.{entry_json}
use Rattle.serde_json.proofs.Views.{view-Array}
use Rattle.bank_show.proofs.Values.{lines_at}
use Rattle.bank_show.proofs.json.entries_value.Goals as goal

pub entry_value-requires : goal.entry_value-requires
entry_value-requires c = lines_at c.args.entries.now c.loop-entry.entry-index c.entry-item.result c.loop-entry-test.true c.requires c.entry-item.is

pub returns : goal.returns
returns c = view-Array c.loop-entry.values
    ∙ ap (λ (ds : List Data). array (items_of ds))
    (c.loop-entry.invariant ∙ ap (map entry_json)
    (take_all c.loop-entry.entry-index c.args.entries.now c.loop-entry-test.false))
