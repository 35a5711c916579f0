use Rattle.entry_laws.proofs.LeftLaws.{unwritten_stay}
use Rattle.entry_laws.proofs.left.unwritten_keys_stay.Goals as goal

pub returns : goal.returns
returns c = record { stays = unwritten_stay }
