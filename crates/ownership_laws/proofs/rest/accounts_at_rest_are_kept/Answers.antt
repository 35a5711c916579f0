use Rattle.ownership_laws.proofs.RestLaws.{at_rest_are_kept}
use Rattle.ownership_laws.proofs.rest.accounts_at_rest_are_kept.Goals as goal

pub returns : goal.returns
returns c = record { kept = at_rest_are_kept }
