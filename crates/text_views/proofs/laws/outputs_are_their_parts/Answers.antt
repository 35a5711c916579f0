use Rattle.text_views.proofs.PartLaws.{parts_are_read, parts_are_found}
use Rattle.text_views.proofs.laws.outputs_are_their_parts.Goals as goal

pub returns-clause-read : goal.returns-clause-read
returns-clause-read c = parts_are_read

pub returns-clause-found : goal.returns-clause-found
returns-clause-found c = parts_are_found
