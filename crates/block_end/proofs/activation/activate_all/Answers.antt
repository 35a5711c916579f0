use Rattle.std.proofs.Common.{◌≡◌, ◌≤◌, ◌-◌, ◌^◌, ◌∷◌, [], sym, ap, subst, ◌∙◌}
use Rattle.std.specs.Vec.Iter.{into_iter_items}
use Rattle.std.proofs.lemmas.List.{nil_from_length}
use Rattle.sol_base.specs.declared.account.Account.{Account}
use Rattle.sol_base.specs.Accounts.{IsShort}
use Rattle.account_store.specs.State.{put, sum}
use Rattle.block_end.specs.Activation.{IsPartly}
use Rattle.block_end.proofs.Activating.{next_fits, next_short, partly_begins, partly_ends, partly_goes_on}
use Rattle.block_end.proofs.activation.activate_all.Goals as goal

pub loop-found-init : goal.loop-found-init
loop-found-init c =
    let all = c.into_iter-found-iterator.ensures.into_iter_gives.0 ∙ c.in_ok-found-items.ensures.found in
    subst (IsPartly c.args.accounts c.args.accounts) (sym all) (partly_begins c.args.accounts c.in_ok-found-items.ensures.state)

held : (c : goal.In_ok-new) → IsPartly c.args.accounts c.loop-found.accounts (c.in-Some.found ∷ into_iter_items c.next.new.self)
held c = subst (IsPartly c.args.accounts c.loop-found.accounts) c.in-Some.ensures.steps.0 c.loop-found.invariant

pub put-requires-clause-fits : goal.put-requires-clause-fits
put-requires-clause-fits c =
    subst (λ (a : Account). sum (put c.loop-found.accounts c.in-Some.found.key a) ≤ 2 ^ 64 - 1) (sym c.in_ok-new.ensures.ok)
    (next_fits c.args.accounts c.loop-found.accounts c.in-Some.found (into_iter_items c.next.new.self) (held c))

pub put-requires-clause-short : goal.put-requires-clause-short
put-requires-clause-short c =
    subst IsShort (sym c.in_ok-new.ensures.ok) (next_short c.args.accounts c.loop-found.accounts c.in-Some.found (into_iter_items c.next.new.self) (held c))

pub loop-found-preserved : goal.loop-found-preserved
loop-found-preserved c =
    partly_goes_on c.args.accounts c.loop-found.accounts c.put.new.self c.in-Some.found (into_iter_items c.next.new.self)
    (subst (IsPartly c.args.accounts c.loop-found.accounts) c.in-Some.ensures.steps.0 c.loop-found.invariant)
    (c.in_ok-put.ensures.ok ∙ ap (put c.loop-found.accounts c.in-Some.found.key) c.in_ok-new.ensures.ok) c.in_ok-put.ensures.state

pub returns : goal.returns
returns c =
    let none : into_iter_items c.loop-found.found-iterator ≡ [] = nil_from_length _ (sym c.loop-found.found-iterator.rest.ok.0 ∙ c.in-None.ensures.steps.0) in
    partly_ends c.args.accounts c.loop-found.accounts (into_iter_items c.loop-found.found-iterator) c.loop-found.invariant none
