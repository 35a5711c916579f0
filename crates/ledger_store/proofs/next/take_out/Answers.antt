use Rattle.std.proofs.Common.{◌+◌, List, [], drop, sym, ◌∙◌, ap}
use Rattle.std.proofs.lemmas.List.{at_drop_more, at_drop_all}
use Rattle.sol_base.specs.declared.key.Key.{Key}
use Rattle.account_store.specs.State.{State}
use Rattle.ledger_store.specs.Changes.{without}
use Rattle.ledger_store.proofs.next.take_out.Goals as goal

pub loop-key-preserved : goal.loop-key-preserved
loop-key-preserved c =
    let s = c.loop-key.accounts in
    let i = c.loop-key.key-index in
    let keys = c.args.keys.now in
    ap (λ (t : State). without (drop (i + 1) keys) t) c.remove-gone.ensures.removed
    ∙ sym (at_drop_more (λ (ks : List Key). without ks s) keys i (record { 0 = [] }) c.loop-key-test.true) ∙ c.loop-key.invariant

pub returns : goal.returns
returns c = sym (at_drop_all (λ (ks : List Key). without ks c.loop-key.accounts) c.args.keys.now c.loop-key.key-index c.loop-key-test.false) ∙ c.loop-key.invariant
