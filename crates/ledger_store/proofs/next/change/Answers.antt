use Rattle.std.proofs.Common.{◌≡◌, List, Some, map, sym, ◌∙◌, ap}
use Rattle.sol_base.specs.declared.key.Key.{Key}
use Rattle.account_store.specs.State.{State, entries}
use Rattle.ledger_store.specs.Changes.{with_accounts, without}
use Rattle.ledger_store.proofs.Differences.{Entry, over_is_with}
use Rattle.ledger_store.proofs.next.change.Goals as goal

pub returns-then-fit_together : goal.returns-then-fit_together
returns-then-fit_together c =
    let s = c.take_out.new.accounts in
    let t = c.args.changes.now.left.accounts in
    let base : s ≡ without c.args.changes.now.gone c.args.accounts.now = c.take_out.ensures ∙ ap (λ (ks : List Key). without ks c.args.accounts.now) c.as_slice.ensures in
    sym (ap (λ (u : State). with_accounts (entries t) (without (map (λ (e : Entry). e.0) (entries t)) u)) base)
    ∙ over_is_with s t c.fit_together.ensures.state (c.fit_together.ensures.fits c.if-fit_together.true) ∙ ap (λ (u : State). Some u) (sym c.in_ok-put_over.ensures)
