use Rattle.std.proofs.Common.{ap, sym, ◌∙◌, Some, None, Option, List}
use Rattle.std.specs.Prelude.{slice_get, option_copied}
use Rattle.sol_base.specs.declared.key.Key.{Key}
use Rattle.sol_base.specs.declared.account.Account.{Account}
use Rattle.account_store.specs.State.{State, next_after}
use Rattle.account_store.specs.Shared.{seen}
use Rattle.account_store.proofs.NextLaws.{next-shown, first-shown, entries_between-seen, all-seen}
use Rattle.account_store.proofs.accounts.Accounts.next_after.Goals as goal

pub returns-in-Some-clause-next : goal.returns-in-Some-clause-next
returns-in-Some-clause-next c =
    let es = c.self.inside.tree.entries in
    let key = c.in-Some.key.now in
    next-shown c.next.result c.range.result c.next.new.self c.next.ensures.steps
    ∙ ap (λ (l : List (Key × Account)). slice_get l 0) (ap seen (c.range.ensures.between tt) ∙ entries_between-seen es key c.self.invariant.ascends)
    ∙ ap (λ (s : State). next_after s (Some key)) c.self.view_is
    ∙ ap (λ (o : Option Key). next_after c.args.self.now o) (sym (ap option_copied c.in-Some.is))

pub returns-in-None-clause-next : goal.returns-in-None-clause-next
returns-in-None-clause-next c =
    let es = c.self.inside.tree.entries in
    first-shown c.first_key_value.result es c.first_key_value.ensures.variant c.first_key_value.ensures.first
    ∙ ap (λ (l : List (Key × Account)). slice_get l 0) (all-seen es c.self.invariant.ascends)
    ∙ ap (λ (s : State). next_after s None) c.self.view_is
    ∙ ap (λ (o : Option Key). next_after c.args.self.now o) (sym (ap option_copied c.in-None.is))
