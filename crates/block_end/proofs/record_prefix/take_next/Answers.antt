use Rattle.std.proofs.Common.{◌++◌, ℕ, List, drop, ap, subst, ◌∙◌, arith}
use Rattle.std.specs.List.{flat_map}
use Rattle.sha2.specs.Hashers.{Holds256}
use Rattle.block_record.specs.declared.block.Entry.{Entry}
use Rattle.block_record.specs.Record.{entry_bytes}
use Rattle.block_end.specs.Blocks.{entries_of}
use Rattle.block_end.proofs.RecordPrefixes.{next_entries, tail_is}
use Rattle.block_end.proofs.record_prefix.take_next.Goals as goal

pub returns-clause-taken : goal.returns-clause-taken
returns-clause-taken c =
    let parts = c.args.parts in
    let count = c.args.begun.count in
    let next = next_entries parts.wires.now parts.order.now c.args.outcomes.now count _ (omega arith) in
    let written = c.in_ok-write_entries.ensures ∙ ap (λ (es : List Entry). c.in_ok-buffer.buffer ++ flat_map entry_bytes es) next in
    let tail = tail_is c.in_ok-buffer.buffer
    (flat_map entry_bytes (entries_of parts.wires.now (drop count parts.order.now) c.args.outcomes.now))
    c.as_slice.result.now c.len-from.result (c.as_slice.ensures ∙ written) c.len-from.ensures in
    λ taken h. subst (λ (bs : List ℕ). Holds256 c.update.new.self (taken ++ bs)) tail (c.update.ensures taken h)

pub returns-clause-kept : goal.returns-clause-kept
returns-clause-kept c =
    let parts = c.args.parts in
    let count = c.args.begun.count in
    let next = next_entries parts.wires.now parts.order.now c.args.outcomes.now count _ (omega arith) in
    λ wanted. c.in_ok-write_entries.ensures
    ∙ ap (λ (es : List Entry). c.in_ok-buffer.buffer ++ flat_map entry_bytes es) next
    ∙ ap (λ (bs : List ℕ). bs ++ flat_map entry_bytes (entries_of parts.wires.now (drop count parts.order.now) c.args.outcomes.now)) (c.in_ok-buffer.ensures wanted)
