use Rattle.std.proofs.Common.{ℕ, List, subst}
use Rattle.std.specs.Arc.{arc_value}
use Rattle.ledger_store.specs.Told.{IsTold}
use Rattle.ledger_store.proofs.ahead.joined.Goals as goal

pub returns-in-Some : goal.returns-in-Some
returns-in-Some g c =
    let child = c.in-Some.child in
    let told = c.join.result in
    let file = arc_value child.promise.bytes.value in
    let slot = c.requires.slot child c.in-Some.is in
    let before = c.requires.before child c.in-Some.is in
    let bytes = c.requires.bytes child c.in-Some.is in
    subst (λ (l : List ℕ). IsTold c.args.slot c.args.before l told) bytes
    (subst (λ (n : ℕ). IsTold c.args.slot n file told) before (subst (λ (n : ℕ). IsTold n child.promise.before file told) slot c.join.ensures))
