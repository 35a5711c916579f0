use Rattle.std.proofs.Common.{rules, ◌∙◌}
use Rattle.bank_show.proofs.Values.{status_is_text}
use Rattle.bank_show.proofs.json.status_value.Goals as goal

pub text_value-requires : goal.text_value-requires
text_value-requires c = status_is_text c.args.status c.as_slice.result.now (search rules) (c.as_slice.ensures ∙ c.in-Ok.ensures)
