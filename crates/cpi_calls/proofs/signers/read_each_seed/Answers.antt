use Rattle.std.proofs.Common.{sym, ◌∙◌}
use Rattle.std.proofs.lemmas.Result.{err_from_is_err_and}
use Rattle.sbpf_memory.specs.Plain.{plain_memory}
use Rattle.cpi_calls.specs.Reads.{item_at, items_read, seed_read}
use Rattle.cpi_calls.proofs.Loops.{items-more, items-stops, items-done}
use Rattle.cpi_calls.proofs.signers.read_each_seed.Goals as goal

pub returns-in_err-seed : goal.returns-in_err-seed
returns-in_err-seed c =
    let p = err_from_is_err_and c.from_residual-in_err-seed.result c.from_residual-in_err-seed.ensures.1 in
    rw (p.1, p.2) (items-stops (λ index. seed_read (plain_memory c.args.memory.now) (item_at c.args.list index))
    c.loop-index.seeds c.args.count c.loop-index.index c.in_err-seed.field-0.0
    (items_read (seed_read (plain_memory c.args.memory.now)) c.args.list c.args.count)
    c.loop-index-test.true (rw c.item_addr-addr.ensures at c.in_err-seed.ensures) c.loop-index.invariant)

pub loop-index-preserved : goal.loop-index-preserved
loop-index-preserved c =
    rw c.in_ok-push.ensures.ok (sym
    (items-more (λ index. seed_read (plain_memory c.args.memory.now) (item_at c.args.list index))
    c.loop-index.seeds c.args.count c.loop-index.index c.in_ok-seed.seed c.loop-index-test.true
    (rw c.item_addr-addr.ensures at c.in_ok-seed.ensures)) ∙ c.loop-index.invariant)

pub returns : goal.returns
returns c = sym c.loop-index.invariant
    ∙ items-done (λ index. seed_read (plain_memory c.args.memory.now) (item_at c.args.list index))
    c.loop-index.seeds c.args.count c.loop-index.index c.loop-index-test.false
