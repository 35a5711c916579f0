use Rattle.std.proofs.Common.{◌≡◌, ap}
use Rattle.sol_base.specs.Accounts.{accounts_of}
use Rattle.invoke_engine.proofs.Keeping.{back_count, back_others, same_others}
use Rattle.invoke_engine.proofs.stop.lawful_accounts.Goals as goal

pub check_listed-requires-clause-lists : goal.check_listed-requires-clause-lists
check_listed-requires-clause-lists c = record {
  marks = cc c.in_ok-taken.ensures.flags;
  count = cc (back_count _ _ _ _ _ c.in_ok-taken.ensures.answer);
}

pub check_listed-requires-clause-unlisted : goal.check_listed-requires-clause-unlisted
check_listed-requires-clause-unlisted c =
    let listed : c.as_slice-3.result.now ≡ c.as_slice-4.result.now = cc in
    let before : accounts_of c.as_slice-2.result.now ≡ accounts_of c.as_slice-6.result.now = cc in
    let after : c.in_ok-taken.taken.accounts ≡ c.as_slice-7.result.now = cc in
    same_others _ _ _ _ _ _ listed before (ap accounts_of after) (back_others _ _ _ _ _ c.in_ok-taken.ensures.answer)
