use Rattle.std.proofs.Common.{sym, ◌∙◌}
use Rattle.std.proofs.lemmas.Result.{err_from_is_err_and}
use Rattle.sbpf_memory.specs.Plain.{plain_memory}
use Rattle.cpi_calls.specs.Reads.{item_at, items_read, meta_read}
use Rattle.cpi_calls.proofs.Loops.{items-more, items-stops, items-done}
use Rattle.cpi_calls.proofs.request.read_metas.Goals as goal

pub returns-in_err-meta : goal.returns-in_err-meta
returns-in_err-meta c =
    let p = err_from_is_err_and c.from_residual-in_err-meta.result c.from_residual-in_err-meta.ensures.1 in
    rw (p.1, p.2) (items-stops (λ index. meta_read (plain_memory c.args.memory.now) (item_at c.args.list index))
    c.loop-index.metas c.args.count c.loop-index.index c.in_err-meta.field-0.0
    (items_read (meta_read (plain_memory c.args.memory.now)) c.args.list c.args.count)
    c.loop-index-test.true (rw c.item_addr-addr.ensures at c.in_err-meta.ensures) c.loop-index.invariant)

pub loop-index-preserved : goal.loop-index-preserved
loop-index-preserved c =
    rw c.in_ok-push.ensures.ok (sym
    (items-more (λ index. meta_read (plain_memory c.args.memory.now) (item_at c.args.list index))
    c.loop-index.metas c.args.count c.loop-index.index c.in_ok-meta.meta c.loop-index-test.true
    (rw c.item_addr-addr.ensures at c.in_ok-meta.ensures)) ∙ c.loop-index.invariant)

pub returns : goal.returns
returns c = sym c.loop-index.invariant
    ∙ items-done (λ index. meta_read (plain_memory c.args.memory.now) (item_at c.args.list index))
    c.loop-index.metas c.args.count c.loop-index.index c.loop-index-test.false
