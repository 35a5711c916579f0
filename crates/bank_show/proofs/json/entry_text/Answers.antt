use Rattle.std.proofs.Common.{◌∙◌}
use Rattle.serde_json.specs.View.{view}
use Rattle.bank_show.proofs.Values.{text_of_entry_value}
use Rattle.bank_show.proofs.json.entry_text.Goals as goal

pub returns : goal.returns
returns c = text_of_entry_value c.from_slice.result c.as_bytes.result.now c.args.entry.now
    (view c.in_ok-entry_value.field-0) c.from_slice.ensures c.in_ok-entry_value.ensures
    (λ fine. c.as_bytes.ensures.value ∙ c.in_ok-text.ensures.text fine)
