use Rattle.std.proofs.Common.{◌-◌, List, length, drop, take, ap, arith}
use Rattle.tx_report.specs.declared.outcome.Outcome.{Outcome}
use Rattle.block_end.proofs.RecordPrefixes.{goes_on, is_written, told_part}
use Rattle.block_end.proofs.rest.take_alone.Goals as goal

pub loop-begun-preserved : goal.loop-begun-preserved
loop-begun-preserved c =
    let all = c.args.outcomes.now in
    let from = c.loop-begun.begun.count in
    let least = c.min-next.ensures in
    let long = ap (λ (os : List Outcome). length os) c.as_slice-all.ensures in
    let each = c.requires.one_each in
    let part = told_part all _ from (c.min-next.result - from) (ap (λ (os : List Outcome). take (c.min-next.result - from) (drop from os)) c.as_slice-all.ensures) (omega (arith, least, long)) in
    let told = part.0 in
    goes_on c.args.parts all _ c.loop-begun.begun c.in_ok-begun.begun c.loop-begun.invariant part.1
    (omega (arith, least, long, each, told)) c.in_ok-begun.ensures.count c.in_ok-begun.ensures.taken
    c.in_ok-begun.ensures.kept

pub returns : goal.returns
returns c = is_written c.args.parts c.args.outcomes.now c.loop-begun.begun c.loop-begun.invariant (let long = ap (λ (os : List Outcome). length os) c.as_slice-all.ensures in omega (arith, long))
