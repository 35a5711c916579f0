use Rattle.json_parts.proofs.ShownLaws.{transaction_shown}
use Rattle.json_parts.proofs.laws.shown_members_are_passed_over.Goals as goal

pub returns : goal.returns
returns c = transaction_shown
