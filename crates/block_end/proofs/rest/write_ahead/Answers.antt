use Rattle.std.proofs.Common.{List, ap, ◌∙◌, arith, refl}
use Rattle.std.specs.List.{flat_map}
use Rattle.std.proofs.lemmas.Result.{IfOk-at_ok}
use Rattle.block_record.specs.declared.block.Entry.{Entry}
use Rattle.block_record.specs.Record.{entry_bytes}
use Rattle.block_end.proofs.RecordPrefixes.{goes_ahead, next_entries}
use Rattle.block_end.proofs.rest.write_ahead.Goals as goal

pub returns-clause-ahead : goal.returns-clause-ahead
returns-clause-ahead g c =
    let parts = c.args.parts in
    let count = c.args.ahead.count in
    let next = next_entries parts.wires.now parts.order.now c.args.outcomes.now count _ (omega arith) in
    λ all is told_is.
    goes_ahead parts all c.args.outcomes.now count _ c.args.ahead.hasher c.call_both-both.result.0.0
    c.args.ahead.bytes c.args.ahead.last c.in_ok-bytes.bytes c.in_ok-bytes.last is told_is c.requires.within
    refl
    c.call_both-both.ensures.first
    (IfOk-at_ok _ c.in_ok-bytes.was c.call_both-both.ensures.second.0 ∙ ap (λ (es : List Entry). flat_map entry_bytes es) next)
    (IfOk-at_ok _ c.in_ok-bytes.was c.call_both-both.ensures.second.1)
