use Rattle.std.proofs.Common.{◌-◌, List, length, drop, take, ap, arith, refl}
use Rattle.tx_report.specs.declared.outcome.Outcome.{Outcome}
use Rattle.block_end.proofs.RecordPrefixes.{ahead_ends, ahead_of, told_part}
use Rattle.block_end.proofs.rest.take_ahead.Goals as goal

pub loop-ahead-init : goal.loop-ahead-init
loop-ahead-init g c = ahead_of c.args.parts c.args.outcomes.now c.args.begun _ c.requires.begun c.new.ensures

pub loop-ahead-preserved : goal.loop-ahead-preserved
loop-ahead-preserved g c =
    let all = c.args.outcomes.now in
    let from = c.loop-ahead.ahead.count in
    let least = c.min-next.ensures in
    let long = ap (λ (os : List Outcome). length os) c.as_slice-all.ensures in
    let part = told_part all _ from (c.min-next.result - from) (ap (λ (os : List Outcome). take (c.min-next.result - from) (drop from os)) c.as_slice-all.ensures) (omega (arith, least, long)) in
    c.in_ok-ahead.ensures.ahead all c.loop-ahead.invariant part.1

pub returns : goal.returns
returns g c = ahead_ends c.args.parts c.args.outcomes.now c.loop-ahead.ahead.count c.loop-ahead.ahead.hasher
    c.loop-ahead.ahead.bytes c.loop-ahead.ahead.last _ c.loop-ahead.invariant
    (let long = ap (λ (os : List Outcome). length os) c.as_slice-all.ensures in omega (arith, long))
    c.hash_last.ensures refl
