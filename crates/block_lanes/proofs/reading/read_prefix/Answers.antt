use Rattle.std.proofs.Common.{length, drop, All, sym, subst, arith}
use Rattle.std.proofs.lemmas.List.Elements.{All-drop, All-take}
use Rattle.tx_report.specs.Outcomes.{IsSmallOutcome}
use Rattle.bank_core.specs.Ends.{outcomes_at_end}
use Rattle.bank_core.proofs.Tells.{told_few}
use Rattle.bank_shared.specs.Face.{desk_origin}
use Rattle.block_end.proofs.RecordPrefixes.{goes_on}
use Rattle.block_lanes.proofs.reading.read_prefix.Goals as goal

pub take_in-requires-clause-within : goal.take_in-requires-clause-within
take_in-requires-clause-within g c =
    let few = told_few _ c.loop.begun.count c.min.result c.in_ok-outcomes.outcomes c.in_ok-outcomes.ensures.exact in
    let least = c.min.ensures in
    let within = c.loop.invariant.begun.within in
    omega (arith, few, least, within)

pub take_in-requires-clause-small : goal.take_in-requires-clause-small
take_in-requires-clause-small g c =
    let all = outcomes_at_end g.W.Work.job (desk_origin c.args.desk.now) in
    subst (All IsSmallOutcome) (sym c.in_ok-outcomes.ensures.serial)
    (All-take IsSmallOutcome (length c.in_ok-outcomes.outcomes) (drop c.loop.begun.count all) (All-drop IsSmallOutcome c.loop.begun.count all c.requires.small))

pub loop-preserved-then-not-is_empty : goal.loop-preserved-then-not-is_empty
loop-preserved-then-not-is_empty g c =
    let few = told_few _ c.loop.begun.count c.min.result c.in_ok-outcomes.outcomes c.in_ok-outcomes.ensures.exact in
    let least = c.min.ensures in
    let within = c.loop.invariant.begun.within in
    record {
      again = (tt, tt);
      reader = c.next_outcomes.ensures.reader;
      begun = goes_on c.args.parts (outcomes_at_end g.W.Work.job (desk_origin c.args.desk.now)) c.in_ok-outcomes.outcomes c.loop.begun c.in_ok-begun-2.begun c.loop.invariant.begun
          c.in_ok-outcomes.ensures.serial (omega (arith, few, least, within)) c.in_ok-begun-2.ensures.count c.in_ok-begun-2.ensures.taken c.in_ok-begun-2.ensures.kept;
    }
