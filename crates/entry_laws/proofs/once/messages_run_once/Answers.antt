use Rattle.entry_laws.proofs.OnceLaws.{messages_run_once}
use Rattle.entry_laws.proofs.once.messages_run_once.Goals as goal

pub returns : goal.returns
returns c = record { once = messages_run_once }
