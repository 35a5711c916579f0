use Rattle.std.proofs.Common.{sym, ◌∙◌}
use Rattle.std.proofs.lemmas.Str.{IsUtf8-from_is_utf8}
use Rattle.bank_json.proofs.record_out.line_value.Goals as goal

pub text_value-requires : goal.text_value-requires
text_value-requires c = IsUtf8-from_is_utf8 c.args.line.now (sym c.is_text.ensures ∙ c.if-is_text.true)
