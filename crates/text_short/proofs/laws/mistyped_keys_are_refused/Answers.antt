use Rattle.text_short.proofs.KeyLaws.{mistyped_keys_are_refused}
use Rattle.text_short.proofs.laws.mistyped_keys_are_refused.Goals as goal

pub returns : goal.returns
returns c = mistyped_keys_are_refused
