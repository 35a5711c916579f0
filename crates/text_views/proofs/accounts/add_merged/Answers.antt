use Rattle.std.proofs.Common.{◌++◌, sym, ap₂, ◌∙◌}
use Rattle.sol_base.specs.declared.account.Account.{Account}
use Rattle.account_store.specs.Shared.{seen, seen_entry}
use Rattle.text_views.specs.AccountLines.{account_lines}
use Rattle.text_views.proofs.MergeLaws.{Walked-start, Walked-less, Walked-greater, Walked-equal, Walked-first, Walked-second, pending, pending_is}
use Rattle.text_views.proofs.accounts.add_merged.Goals as goal

pub loop-first-init : goal.loop-first-init
loop-first-init c =
    Walked-start c.args.left.now c.args.right.now c.args.out.now c.args.others.now (pending c.next-first.result c.next-first.new.self) (pending c.next-second.result c.next-second.new.self)
    (pending_is c.next-first.result _ c.next-first.new.self c.next-first.ensures.steps ∙ c.iter-lefts.ensures.entries)
    (pending_is c.next-second.result _ c.next-second.new.self c.next-second.ensures.steps ∙ c.iter-rights.ensures.entries)

pub loop-first-preserved-in-Less : goal.loop-first-preserved-in-Less
loop-first-preserved-in-Less c =
    let W = rw (c.in-Some-Some.is-0, c.in-Some-Some.is-1) at c.loop-first.invariant in
    rw c.in-Some-Some.is-1 (Walked-less c.args.left.now c.args.right.now _ _ c.loop-first.out
    c.loop-first.others (seen_entry (c.in-Some-Some.key, c.in-Some-Some.account))
    (seen_entry (c.in-Some-Some.other_key, c.in-Some-Some.other)) (seen c.loop-first.lefts)
    (seen c.loop-first.rights) (pending c.next-first-in-Less.result c.next-first-in-Less.new.self)
    c.add_left.new.out W
    (sym c.in-Less.ensures) c.in_ok-add_left-in-Less.ensures (pending_is c.next-first-in-Less.result _ c.next-first-in-Less.new.self c.next-first-in-Less.ensures.steps))

pub loop-first-preserved-in-Equal : goal.loop-first-preserved-in-Equal
loop-first-preserved-in-Equal c =
    let W = rw (c.in-Some-Some.is-0, c.in-Some-Some.is-1) at c.loop-first.invariant in
    Walked-equal c.args.left.now c.args.right.now _ _ c.loop-first.out c.loop-first.others
    (seen_entry (c.in-Some-Some.key, c.in-Some-Some.account))
    (seen_entry (c.in-Some-Some.other_key, c.in-Some-Some.other)) (seen c.loop-first.lefts)
    (seen c.loop-first.rights) (pending c.next-first-in-Equal.result c.next-first-in-Equal.new.self)
    (pending c.next-second-in-Equal.result c.next-second-in-Equal.new.self) c.add_account.new.out W
    (sym c.in-Equal.ensures)
    (c.in_ok-add_account-in-Equal.ensures ∙ ap₂ (λ (a b : Account). c.loop-first.out ++ account_lines c.in-Some-Some.key.now a b) c.deref.ensures c.deref-in-Equal.ensures)
    (pending_is c.next-first-in-Equal.result _ c.next-first-in-Equal.new.self c.next-first-in-Equal.ensures.steps)
    (pending_is c.next-second-in-Equal.result _ c.next-second-in-Equal.new.self c.next-second-in-Equal.ensures.steps)

pub loop-first-preserved-in-Greater : goal.loop-first-preserved-in-Greater
loop-first-preserved-in-Greater c =
    let W = rw (c.in-Some-Some.is-0, c.in-Some-Some.is-1) at c.loop-first.invariant in
    rw c.in-Some-Some.is-0 (Walked-greater c.args.left.now c.args.right.now _ _ c.loop-first.out
    c.loop-first.others (seen_entry (c.in-Some-Some.key, c.in-Some-Some.account))
    (seen_entry (c.in-Some-Some.other_key, c.in-Some-Some.other)) (seen c.loop-first.lefts)
    (seen c.loop-first.rights) (pending c.next-second-in-Greater.result c.next-second-in-Greater.new.self)
    c.add_right.new.out W
    (sym c.in-Greater.ensures) c.in_ok-add_right-in-Greater.ensures (pending_is c.next-second-in-Greater.result _ c.next-second-in-Greater.new.self c.next-second-in-Greater.ensures.steps))

pub loop-first-preserved-in-Some-None : goal.loop-first-preserved-in-Some-None
loop-first-preserved-in-Some-None c =
    let W = rw (c.in-Some-None.is-0, c.in-Some-None.is-1) at c.loop-first.invariant in
    rw c.in-Some-None.is-1 (Walked-first c.args.left.now c.args.right.now _ _ c.loop-first.out
    c.loop-first.others (seen_entry (c.in-Some-None.key, c.in-Some-None.field-0-1-0))
    (seen c.loop-first.lefts) (pending c.next-first-in-Some-None.result c.next-first-in-Some-None.new.self)
    c.add_left-in-Some-None.new.out W
    c.in_ok-add_left-in-Some-None.ensures (pending_is c.next-first-in-Some-None.result _ c.next-first-in-Some-None.new.self c.next-first-in-Some-None.ensures.steps))

pub loop-first-preserved : goal.loop-first-preserved
loop-first-preserved c =
    let W = rw (c.in-None-Some.is-0, c.in-None-Some.is-1) at c.loop-first.invariant in
    rw c.in-None-Some.is-0 (Walked-second c.args.left.now c.args.right.now _ _ c.loop-first.out
    c.loop-first.others (seen_entry (c.in-None-Some.key, c.in-None-Some.field-0-1-1))
    (seen c.loop-first.rights) (pending c.next-second-in-None-Some.result
    c.next-second-in-None-Some.new.self) c.add_right-in-None-Some.new.out W
    c.in_ok-add_right-in-None-Some.ensures (pending_is c.next-second-in-None-Some.result _ c.next-second-in-None-Some.new.self c.next-second-in-None-Some.ensures.steps))
