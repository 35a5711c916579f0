use Rattle.bank_lanes.specs.Gates.{passed}
use Rattle.bank_lanes.proofs.GateSteps.{just_passed}
use Rattle.bank_lanes.proofs.gate.Passes.pass.Goals as goal

pub returns-clause-last : goal.returns-clause-last
returns-clause-last g c = just_passed (passed c.args.self.now) c.args.position _ c.one_more.ensures
