use Rattle.std.proofs.Common.{List, map, ap, ◌∙◌}
use Rattle.std.proofs.lemmas.List.{take_all}
use Rattle.serde_json.specs.Data.{Data, array}
use Rattle.serde_json.specs.View.{items_of}
use Rattle.serde_json.proofs.Views.{view-Array}
use Rattle.json_parts.proofs.list.list_value.Goals as goal

pub returns : goal.returns
returns g c = view-Array c.loop-item.values
    ∙ ap (λ (ds : List Data). array (items_of ds))
    (c.loop-item.invariant ∙ ap (map g.S.InJson.json_of)
    (take_all c.loop-item.item-index c.args.items.now c.loop-item-test.false))
