use Rattle.std.proofs.Common.{◌≡◌, ◌<◌, ◌^◌, sym, ap, subst, ◌∙◌}
use Rattle.account_store.specs.State.{State, len}
use Rattle.block_end.specs.BlockEnd.{Shares, activate_all, shares_at_end}
use Rattle.block_end.proofs.Closings.{few_at_end}
use Rattle.block_end.proofs.closing.end_state.Goals as goal

pub state_hash-requires : goal.state_hash-requires
state_hash-requires c =
    let e : c.in_ok-accounts-2.accounts ≡ (shares_at_end c.args.accounts c.args.collector.now c.args.split).accounts =
    c.in_ok-accounts-2.ensures ∙ ap (λ (s : Shares). activate_all s.accounts) c.in_ok-accounts.ensures in
    subst (λ (s : State). len s < 2 ^ 32) (sym e) (few_at_end c.args.accounts c.args.collector.now c.args.split c.requires.room)

pub returns : goal.returns
returns c = record {
  shares =
      ap (λ (accounts : State). let shares : Shares =
      record {
        accounts = accounts;
        burned = c.in_ok-accounts.field-0.burned;
        collected =
            c.in_ok-accounts.field-0.collected;
      } in shares) c.in_ok-accounts-2.ensures
      ∙ ap (λ (s : Shares). record s { accounts = activate_all s.accounts }) c.in_ok-accounts.ensures;
  state = c.in_ok-state.ensures;
}
