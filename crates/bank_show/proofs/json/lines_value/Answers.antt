use Rattle.std.proofs.Common.{List, map, ap, ◌∙◌}
use Rattle.std.proofs.lemmas.List.{take_all}
use Rattle.serde_json.specs.Data.{Data, string, array}
use Rattle.serde_json.specs.View.{items_of}
use Rattle.serde_json.proofs.Views.{view-Array}
use Rattle.bank_show.proofs.Values.{text_at}
use Rattle.bank_show.proofs.json.lines_value.Goals as goal

pub text_value-requires : goal.text_value-requires
text_value-requires c = text_at c.args.lines.now c.loop-line.line-index c.line-item.result c.as_slice.result.now c.loop-line-test.true c.requires c.line-item.is c.as_slice.ensures

pub returns : goal.returns
returns c = view-Array c.loop-line.values
    ∙ ap (λ (ds : List Data). array (items_of ds))
    (c.loop-line.invariant ∙ ap (map string)
    (take_all c.loop-line.line-index c.args.lines.now c.loop-line-test.false))
