use Rattle.cpi_calls.proofs.Requests.{request-units, request-small}
use Rattle.cpi_calls.proofs.laws.requests_are_small.Goals as goal

pub returns-clause-units : goal.returns-clause-units
returns-clause-units c = request-units

pub returns-clause-size : goal.returns-clause-size
returns-clause-size c = request-small
