use Rattle.std.proofs.Common.{ap, arith}
use Rattle.account_store.specs.State.{State, len}
use Rattle.account_store.proofs.SharedLaws.{len-state_seen}
use Rattle.account_store.proofs.Pushes.{entries-pushed, IsKept-pushed, put-last, ascends-last, length-of}
use Rattle.account_store.proofs.ascending.Ascending.push.Goals as goal

pub invariant_of-self-2 : goal.invariant_of-self-2
invariant_of-self-2 c =
    let es = c.self.inside.entries.items in
    let new = c.push.new.self.items in
    let s = c.args.self.now in
    let put = put-last es new s c.args.entry c.in_ok-new.field-0 c.self.invariant.ascends c.self.view_is c.in_ok-push.ensures.items c.in_ok-total.ensures.fine in
    let ascends = ascends-last es new s c.args.entry c.in_ok-new.field-0 c.self.invariant.ascends c.self.view_is c.in_ok-push.ensures.items c.in_ok-total.ensures.fine in
    IsKept-pushed es new c.self.inside.total c.in_ok-total.total s c.args.entry c.in_ok-new.field-0
    c.self.invariant c.self.view_is c.in_ok-new.ensures.ok put ascends c.in_ok-total.ensures.fine
    c.requires.short c.in_ok-total.ensures.ok

pub returns-clause-pushed : goal.returns-clause-pushed
returns-clause-pushed c =
    let es = c.self.inside.entries.items in
    let new = c.push.new.self.items in
    let put = put-last es new c.args.self.now c.args.entry c.in_ok-new.field-0 c.self.invariant.ascends c.self.view_is c.in_ok-push.ensures.items c.in_ok-total.ensures.fine in
    entries-pushed es new c.args.self.now c.args.entry c.in_ok-new.field-0 c.self.view_is c.in_ok-new.ensures.ok put c.in_ok-total.ensures.fine

pub overflow_cast-len : goal.overflow_cast-len
overflow_cast-len c =
    let long = len-state_seen c.self.inside.entries.items c.self.invariant.ascends in
    let same = ap (λ (s : State). len s) c.self.view_is in
    omega (arith, c.len.ensures, long, same, c.requires.few)

pub total_with-requires : goal.total_with-requires
total_with-requires c = omega (arith, c.len.ensures, length-of c.self.inside.entries.items c.args.self.now c.self.invariant.ascends c.self.view_is)
