use Rattle.std.proofs.Common.{◌≡◌, ◌≤◌, List, length, not, ap, subst, sym, ◌∙◌, arith}
use Rattle.std.specs.FinMap.{from_entries, len-entries}
use Rattle.account_store.specs.State.{State, IsHeld, entries, get, len}
use Rattle.ledger_store.specs.Changes.{is_kept}
use Rattle.ledger_store.proofs.Differences.{Entry, fewer_accounts}
use Rattle.spec_base.proofs.Lists.{AllByRecursion-filter, length-filter-most}
use Rattle.ledger_store.proofs.Lists.{given, length_of, short}
use Rattle.ledger_store.proofs.compared.left_accounts.Goals as goal

pub from_sorted-requires-clause-few : goal.from_sorted-requires-clause-few
from_sorted-requires-clause-few c =
    let list = c.in_ok-left_by.field-0 in
    let before = c.args.before.now in
    let after = c.args.after.now in
    omega (arith, length_of list, ap length c.in_ok-left_by.ensures, length-filter-most (λ (e : Entry). not (is_kept (get before e.0) e.1)) (entries after), len-entries after, c.requires.few)

pub from_sorted-requires-clause-short : goal.from_sorted-requires-clause-short
from_sorted-requires-clause-short c =
    short c.in_ok-left_by.field-0 _ c.in_ok-left_by.ensures
    (AllByRecursion-filter (λ (e : Entry). IsHeld e.1)
    (λ (e : Entry). not (is_kept (get c.args.before.now e.0) e.1)) (entries c.args.after.now)
    c.requires.state.held)

pub returns-in-Ok-clause-fewer : goal.returns-in-Ok-clause-fewer
returns-in-Ok-clause-fewer c =
    let same : c.in-Ok.left ≡ from_entries _ = given c.in_ok-left_by.field-0 c.in-Ok.left c.in-Ok.ensures ∙ ap (λ (es : List Entry). from_entries es) c.in_ok-left_by.ensures in
    subst (λ (s : State). len s ≤ len c.args.after.now) (sym same) (fewer_accounts c.args.before.now c.args.after.now)
