use Rattle.cpi_calls.specs.Calls.{IsSmallRequest}
use Rattle.cpi_calls.proofs.Requests.{request-small}
use Rattle.invoke_engine.proofs.stop.called.Goals as goal

pub grant-requires-clause-metas : goal.grant-requires-clause-metas
grant-requires-clause-metas c =
    let small : IsSmallRequest c.in_ok-request.request = request-small _ _ _ _ _ c.in_ok-request.ensures.0 in small.metas
