use Rattle.std.proofs.Common.{sym, ◌∙◌}
use Rattle.std.proofs.lemmas.Result.{err_from_is_err_and}
use Rattle.sbpf_memory.specs.Plain.{plain_memory}
use Rattle.cpi_calls.specs.Reads.{item_at, items_read, signer_read}
use Rattle.cpi_calls.proofs.Loops.{items-more, items-stops, items-done}
use Rattle.cpi_calls.proofs.signers.read_each_signer.Goals as goal

pub returns-in_err-signer : goal.returns-in_err-signer
returns-in_err-signer c =
    let p = err_from_is_err_and c.from_residual-in_err-signer.result c.from_residual-in_err-signer.ensures.1 in
    rw (p.1, p.2) (items-stops (λ index. signer_read (plain_memory c.args.memory.now) c.args.caller.now
    (item_at c.args.list index)) c.loop-index.signers c.args.count c.loop-index.index
    c.in_err-signer.field-0.0 (items_read (signer_read (plain_memory c.args.memory.now) c.args.caller.now)
    c.args.list c.args.count) c.loop-index-test.true
    (rw c.item_addr-addr.ensures at c.in_err-signer.ensures) c.loop-index.invariant)

pub loop-index-preserved : goal.loop-index-preserved
loop-index-preserved c =
    rw c.in_ok-push.ensures.ok (sym
    (items-more (λ index. signer_read (plain_memory c.args.memory.now) c.args.caller.now
    (item_at c.args.list index)) c.loop-index.signers c.args.count c.loop-index.index c.in_ok-signer.signer
    c.loop-index-test.true (rw c.item_addr-addr.ensures at c.in_ok-signer.ensures))
    ∙ c.loop-index.invariant)

pub returns : goal.returns
returns c = sym c.loop-index.invariant
    ∙ items-done (λ index. signer_read (plain_memory c.args.memory.now) c.args.caller.now
    (item_at c.args.list index)) c.loop-index.signers c.args.count c.loop-index.index c.loop-index-test.false
