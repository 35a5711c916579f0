use Rattle.text_short.proofs.KeyLaws.{digits_are_the_key}
use Rattle.text_short.proofs.laws.digits_are_the_key.Goals as goal

pub returns : goal.returns
returns c = digits_are_the_key
