use Rattle.std.proofs.Common.{All, sym, subst}
use Rattle.tx_report.specs.Outcomes.{IsSmallOutcome}
use Rattle.bank_core.specs.Ends.{outcomes_at_end}
use Rattle.bank_shared.specs.Face.{desk_origin}
use Rattle.block_end.specs.RecordPrefix.{IsBegun}
use Rattle.block_lanes.proofs.lanes.run_shared.Goals as goal

pub run_beside-begun-requires-clause-small : goal.run_beside-begun-requires-clause-small
run_beside-begun-requires-clause-small g c κs within = subst (λ o. All IsSmallOutcome (outcomes_at_end g.W.Work.job o)) (sym c.in_ok-desk.ensures.origin) c.requires.small

pub returns-clause-begun : goal.returns-clause-begun
returns-clause-begun g c =
    subst (λ o. IsBegun c.args.parts (outcomes_at_end g.W.Work.job o) c.in_ok-begun.begun) c.in_ok-desk.ensures.origin
    (c.in_ok-begun.ensures (outcomes_at_end g.W.Work.job (desk_origin c.in_ok-desk.desk)) c.run_beside-begun.ensures.begun)
