use Rattle.bank_law.proofs.Events.{every_sound}
use Rattle.bank_law.proofs.laws.every_legal_history_is_sound.Goals as goal

pub returns : goal.returns
returns c = record { sound = every_sound }
