use Rattle.std.proofs.Common.{sym, ◌∙◌, arith}
use Rattle.sol_base.specs.Accounts.{accounts_of}
use Rattle.tx_exec.proofs.Fitting.{short_at}
use Rattle.tx_exec.proofs.Rent.{as_place, broken-found, broken-more, broken-none}
use Rattle.tx_exec.proofs.ending.find_broken_rent.Goals as goal

pub is_rent_broken-broken-requires-clause-before : goal.is_rent_broken-broken-requires-clause-before
is_rent_broken-broken-requires-clause-before c =
    let below = c.loop-place-test.true in
    let count = c.requires.before in
    short_at c.args.before.now c.loop-place.place _ (omega (arith, below, count)) c.index-before-place.is c.requires.short_before

pub is_rent_broken-broken-requires-clause-after : goal.is_rent_broken-broken-requires-clause-after
is_rent_broken-broken-requires-clause-after c =
    let below = c.loop-place-test.true in
    let count = c.requires.after in
    short_at c.args.after.now c.loop-place.place _ (omega (arith, below, count)) c.index-after-place.is c.requires.short_after

pub returns-then-broken-clause-exact : goal.returns-then-broken-clause-exact
returns-then-broken-clause-exact c =
    let below = c.loop-place-test.true in
    let before = c.requires.before in
    let after = c.requires.after in
    as_place c.args.locks.now (accounts_of c.args.before.now) (accounts_of c.args.after.now) _
    (c.loop-place.invariant ∙ broken-found c.args.locks.now c.args.before.now c.args.after.now
    c.loop-place.place _ c.index-before-place.result c.index-after-place.result below
    (omega (arith, below, before)) (omega (arith, below, after)) c.index-before-place.is
    c.index-after-place.is (sym c.is_rent_broken-broken.ensures ∙ c.if-broken.true))

pub loop-place-preserved : goal.loop-place-preserved
loop-place-preserved c =
    let below = c.loop-place-test.true in
    let before = c.requires.before in
    let after = c.requires.after in
    c.loop-place.invariant ∙ broken-more c.args.locks.now c.args.before.now c.args.after.now c.loop-place.place
    _ c.index-before-place.result c.index-after-place.result below (omega (arith, below, before))
    (omega (arith, below, after)) c.index-before-place.is c.index-after-place.is
    (sym c.is_rent_broken-broken.ensures ∙ c.if-broken.false)

pub returns-clause-exact : goal.returns-clause-exact
returns-clause-exact c =
    as_place c.args.locks.now (accounts_of c.args.before.now) (accounts_of c.args.after.now) _
    (c.loop-place.invariant ∙ broken-none c.args.locks.now (accounts_of c.args.before.now)
    (accounts_of c.args.after.now) c.loop-place.place c.loop-place-test.false)
