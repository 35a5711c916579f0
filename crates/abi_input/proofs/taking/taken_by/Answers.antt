use Rattle.std.proofs.Common.{◌∷◌, ◌++◌, ◌+◌, [], List, Bool, Some, length, sym, ap, ◌∙◌, subst}
use Rattle.std.specs.Arc.{arc_value}
use Rattle.std.proofs.lemmas.List.{length-append, length-map}
use Rattle.std.proofs.lemmas.Option.{same_Some}
use Rattle.sol_base.specs.declared.account.Account.{Account}
use Rattle.sol_base.specs.Accounts.{accounts_of, SameUnlessTouched}
use Rattle.abi_input.specs.Answers.{DifferWhereTouched}
use Rattle.abi_input.specs.Region.{account_back}
use Rattle.abi_input.proofs.Entries.{account_there}
use Rattle.abi_input.proofs.Lent.{lent_at_entry}
use Rattle.abi_input.proofs.TakeLaws.{account_by_is, all_taken, entry_holds, pushed, shared_at, taken_more, touched_more, untouched_more}
use Rattle.abi_input.proofs.taking.taken_by.Goals as goal

pub take_one-requires-clause-entry : goal.take_one-requires-clause-entry
take_one-requires-clause-entry c =
    λ entry has. entry_holds c.args.laid.now.region.now.bytes (accounts_of c.args.laid.now.start.now)
    c.args.laid.now.listings.metas.now c.loop-index.index c.entry_at.result entry c.args.laid.now.whole
    c.requires.lengths (c.entry_at.ensures ∙ c.requires.entries c.loop-index.index) has

pub take_one-requires-clause-lent : goal.take_one-requires-clause-lent
take_one-requires-clause-lent c =
    let x = c.index-now-index.result in
    λ entry has. lent_at_entry (accounts_of c.args.laid.now.start.now) (accounts_of c.args.now.now)
    c.args.laid.now.listings.metas.now c.args.laid.now.region.now.lent c.loop-index.index c.entry_at.result
    entry (arc_value x) c.requires.lent (c.entry_at.ensures ∙ c.requires.entries c.loop-index.index) has
    (account_there c.args.now.now c.loop-index.index x c.loop-index-test.true c.index-now-index.is)

pub loop-index-preserved : goal.loop-index-preserved
loop-index-preserved c =
    let before = accounts_of c.args.now.now in
    let x = c.index-now-index.result in
    let t = c.in_ok-take_one.field-0.account in
    let flag = c.in_ok-take_one.field-0.touched in
    let value = c.in_ok-take_one.ensures.value
    ∙ account_by_is c.args.laid.now.region.now.bytes (accounts_of c.args.laid.now.start.now)
    c.args.laid.now.listings.metas.now c.loop-index.index c.entry_at.result (arc_value x)
    (c.entry_at.ensures ∙ c.requires.entries c.loop-index.index) in
    let more = pushed c.loop-index.back.accounts c.push.new.self.accounts t c.in_ok-push.ensures.accounts in
    let there = shared_at c.args.now.now c.loop-index.index x c.loop-index-test.true c.index-now-index.is in
    let long = length-map c.loop-index.back.accounts (λ share. arc_value share) ∙ c.loop-index.invariant.count in
    record {
      accounts = ap (λ (l : List _). accounts_of l) c.in_ok-push.ensures.accounts
          ∙ taken_more (account_back c.args.laid.now.region.now.bytes (accounts_of c.args.laid.now.start.now)
          c.args.laid.now.listings.metas.now) c.args.now.now c.loop-index.back.accounts c.loop-index.index x t
          c.loop-index-test.true c.index-now-index.is value c.loop-index.invariant.accounts;
      count = ap length c.in_ok-push.ensures.accounts ∙ length-append c.loop-index.back.accounts (t ∷ []) ∙ ap (λ n. n + 1) c.loop-index.invariant.count;
      flags = ap length c.in_ok-push.ensures.touched ∙ length-append c.loop-index.back.touched (flag ∷ []) ∙ ap (λ n. n + 1) c.loop-index.invariant.flags;
      untouched = subst (λ (l : List Bool). SameUnlessTouched l before (accounts_of c.push.new.self.accounts)) (sym c.in_ok-push.ensures.touched)
          (subst (λ (l : List Account). SameUnlessTouched (c.loop-index.back.touched ++ flag ∷ []) before l) (sym more)
          (untouched_more c.loop-index.back.touched flag before (accounts_of c.loop-index.back.accounts) c.loop-index.index (arc_value t) c.loop-index.invariant.flags long
          (λ unset. there ∙ ap Some (sym (c.in_ok-take_one.ensures.same unset))) c.loop-index.invariant.untouched));
      touched = subst (λ (l : List Bool). DifferWhereTouched l before (accounts_of c.push.new.self.accounts)) (sym c.in_ok-push.ensures.touched)
          (subst (λ (l : List Account). DifferWhereTouched (c.loop-index.back.touched ++ flag ∷ []) before l) (sym more)
          (touched_more c.loop-index.back.touched flag before (accounts_of c.loop-index.back.accounts) c.loop-index.index (arc_value t) c.loop-index.invariant.flags long
          (λ set same. c.in_ok-take_one.ensures.changed set (same_Some (arc_value t) (arc_value x) (same ∙ there))) c.loop-index.invariant.touched));
    }

pub returns-clause-accounts : goal.returns-clause-accounts
returns-clause-accounts c = c.loop-index.invariant.accounts
    ∙ all_taken (account_back c.args.laid.now.region.now.bytes (accounts_of c.args.laid.now.start.now)
    c.args.laid.now.listings.metas.now) c.args.now.now c.loop-index.index c.loop-index-test.false
