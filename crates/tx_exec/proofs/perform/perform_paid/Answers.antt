use Rattle.std.proofs.Common.{◌≡◌, List, Result, Ok, length, sym, subst}
use Rattle.std.specs.Prelude.{MatchResult}
use Rattle.std.specs.declared.sync.Arc.{Arc}
use Rattle.std.specs.declared.alloc.Global.{Global}
use Rattle.sol_base.specs.declared.key.Key.{Key}
use Rattle.sol_base.specs.declared.account.Account.{Account}
use Rattle.sol_base.specs.Accounts.{accounts_of}
use Rattle.message_codec.specs.Roles.{all_keys}
use Rattle.bank_law.specs.Lawful.{Fits}
use Rattle.admission.specs.declared.chosen.Chosen.{Chosen}
use Rattle.admission.specs.Chosen.{IsChosen}
use Rattle.invoke_engine.specs.Conditions.{AreAccountsOf}
use Rattle.tx_exec.specs.Executing.{Failure}
use Rattle.tx_exec.proofs.Fitting.{fits_given, given_fits}
use Rattle.tx_exec.proofs.perform.perform_paid.Goals as goal

-- the accounts once the instructions ended well
after_fits : (t : Chosen) (keys : List Key) (ended : Result (List Account) Failure) (left after : List Account)
    → IsChosen t → keys ≡ all_keys t.tx.message t.loaded
    → MatchResult ended (λ vs. AreAccountsOf (length keys) vs) (λ _. Unit {0}) → ended ≡ Ok left → after ≡ left
    → Fits t.locks after
after_fits t keys ended left after is its given good same =
    let there = subst (λ (r : Result (List Account) Failure). MatchResult r (λ vs. AreAccountsOf (length keys) vs) (λ _. Unit {0})) good given in
    subst (λ (vs : List Account). Fits t.locks vs) (sym same) (given_fits t left is (subst (λ (ks : List Key). AreAccountsOf (length ks) left) its there))

pub execute-requires-clause-base : goal.execute-requires-clause-base
execute-requires-clause-base g c =
    subst (λ (ks : List Key). AreAccountsOf (length ks) (accounts_of c.as_slice-base.result.now)) (sym c.requires.keys)
    (fits_given c.args.transaction.now.chosen.now (accounts_of c.as_slice-base.result.now) c.requires.chosen
    (subst (λ (vs : List (Arc Account Global)). Fits c.args.transaction.now.chosen.now.locks (accounts_of vs)) (sym c.as_slice-base.ensures) c.in_ok-accounts.ensures.fits))

pub broken_rent-broken-requires-clause-after : goal.broken_rent-broken-requires-clause-after
broken_rent-broken-requires-clause-after g c =
    after_fits c.args.transaction.now.chosen.now c.args.transaction.now.context.keys c.in_ok-left.field-0.result
    c.in-Ok.after (accounts_of c.as_slice-after.result.now) c.requires.chosen c.requires.keys
    c.in_ok-left.ensures.fits c.in-Ok.is c.as_slice-after.ensures

pub finish-requires-clause-after : goal.finish-requires-clause-after
finish-requires-clause-after g c =
    (after_fits c.args.transaction.now.chosen.now c.args.transaction.now.context.keys
    c.in_ok-left.field-0.result c.in-Ok.after (accounts_of c.as_slice-after.result.now) c.requires.chosen
    c.requires.keys c.in_ok-left.ensures.fits c.in-Ok.is c.as_slice-after.ensures).one_each
