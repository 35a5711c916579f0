use Rattle.std.proofs.Common.{◌≡◌, sym, ap, subst, ◌∙◌}
use Rattle.std.specs.Prelude.{IfOk}
use Rattle.std.specs.Arc.{arc_value}
use Rattle.sol_base.specs.declared.account.Account.{Account}
use Rattle.sol_base.specs.Accounts.{IsShort}
use Rattle.account_store.proofs.StateLaws.{IsHeld-get}
use Rattle.program_cache.specs.Programs.{Sought, account_as, sought_in}
use Rattle.program_cache.specs.Kept.{kept_as}
use Rattle.program_cache.proofs.ProgramLaws.{sought_absent, sought_account}
use Rattle.program_cache.proofs.kept.found_under.Goals as goal

pub account_program-requires : goal.account_program-requires
account_program-requires c =
    let account : Account = arc_value c.in-Some.account.now in
    subst IsShort (sym c.deref.ensures) (IsHeld-get c.args.accounts.now c.args.key.now account c.in-Some.ensures.state (sym c.in-Some.ensures.value)).1

pub returns-in-None : goal.returns-in-None
returns-in-None c = sym (sought_absent c.args.accounts.now c.args.key.now (sym c.in-None.ensures.value))

pub returns-in-Some : goal.returns-in-Some
returns-in-Some c =
    let account : Account = arc_value c.in-Some.account.now in
    let same : account_as c.deref.result.now ≡ sought_in c.args.accounts.now c.args.key.now =
    ap account_as c.deref.ensures ∙ sym (sought_account c.args.accounts.now c.args.key.now account (sym c.in-Some.ensures.value)) in
    subst (λ (found : Sought). IfOk c.account_program.result (λ kept. kept_as kept ≡ found)) same c.account_program.ensures
