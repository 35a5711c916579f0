use Rattle.std.proofs.lemmas.Result.{err_from_is_err_and}
use Rattle.spec_base.specs.Reading.{many}
use Rattle.spec_base.proofs.Loop.{goes_on, ends, is_done}
use Rattle.format_fields.proofs.many.read_many.Goals as goal

pub returns-in_err-item : goal.returns-in_err-item
returns-in_err-item g c =
    let p = err_from_is_err_and c.from_residual.result c.from_residual.ensures.1 in
    rw (p.1, p.2) (ends (λ _ rest. g.T.Item.item_at c.args.total rest) g.E.Refusal.is_memory
    c.in_err-item.field-0.0 c.loop.items c.args.count c.loop.counter c.loop.rest.now
    (many (g.T.Item.item_at c.args.total) c.args.count c.args.bytes.now) c.loop-test.true
    c.in_err-item.ensures c.loop.invariant)

pub loop-preserved : goal.loop-preserved
loop-preserved g c =
    rw c.in-Ok-push.ensures.ok (goes_on (λ _ rest. g.T.Item.item_at c.args.total rest) c.loop.items c.args.count
    c.loop.counter c.loop.rest.now c.in_ok-item.item c.in_ok-item.after.now
    (many (g.T.Item.item_at c.args.total) c.args.count c.args.bytes.now) c.loop-test.true
    c.in_ok-item.ensures c.loop.invariant)

pub returns : goal.returns
returns g c = is_done (λ _ rest. g.T.Item.item_at c.args.total rest) c.loop.items c.args.count c.loop.counter
    c.loop.rest.now (many (g.T.Item.item_at c.args.total) c.args.count c.args.bytes.now) c.loop-test.false
    c.loop.invariant
