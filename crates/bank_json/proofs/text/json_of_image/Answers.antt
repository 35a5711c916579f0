use Rattle.std.proofs.Common.{Ok, ap, sym, ◌∙◌}
use Rattle.serde_json.specs.View.{view}
use Rattle.bank_json.specs.Texts.{shown}
use Rattle.bank_json.proofs.Depths.{image_depth}
use Rattle.bank_json.proofs.text.json_of_image.Goals as goal

pub returns : goal.returns
returns c = ap shown c.in_ok-value.ensures ∙ ap Ok (sym (c.in_ok-text_of.ensures (image_depth c.args.bytes.now (view c.in_ok-value.value) c.in_ok-value.ensures)))
