use Rattle.std.proofs.Common.{◌≡◌, ◌≤◌, ◌^◌, ◌-◌, Bool, true, false, Some, None, cond, sym, subst, ◌∙◌, arith}
use Rattle.std.proofs.lemmas.Option.{same_Some}
use Rattle.sol_base.specs.declared.account.Account.{Account}
use Rattle.account_store.specs.State.{at, put, sum}
use Rattle.account_store.proofs.StateLaws.{lamports-at-le, sum-put}
use Rattle.block_end.specs.BlockEnd.{may_collect, more}
use Rattle.block_end.proofs.fees.share_split.Goals as goal

pub paid_account-requires : goal.paid_account-requires
paid_account-requires c = let a = lamports-at-le c.args.accounts c.args.collector.now in omega (arith, a, c.requires)

-- the account that is paid
paid_is : (b : Bool) (account paid : Account) → cond b (Some account) None ≡ Some paid → paid ≡ account
paid_is true account paid e = sym (same_Some account paid e)
paid_is false account paid e = absurd (cc)

pub put-requires-clause-fits : goal.put-requires-clause-fits
put-requires-clause-fits c =
    let paid = more (at c.args.accounts c.args.collector.now) c.args.split.rest in
    let is : c.in-Some.paid ≡ paid = paid_is (may_collect c.args.collector.now paid) paid c.in-Some.paid (sym c.in_ok-paid.ensures ∙ c.in-Some.is) in
    let a = sum-put c.args.accounts c.args.collector.now paid in
    let b : sum (put c.args.accounts c.args.collector.now paid) ≤ 2 ^ 64 - 1 = omega (arith, a, c.requires) in
    subst (λ (x : Account). sum (put c.args.accounts c.args.collector.now x) ≤ 2 ^ 64 - 1) (sym (c.in_ok-new.ensures.ok ∙ is)) b
