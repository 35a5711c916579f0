use Rattle.std.proofs.Common.{take}
use Rattle.sol_base.specs.Accounts.{accounts_of}
use Rattle.sol_base.specs.Metas.{is_listed}
use Rattle.account_rules.specs.AccountRules.{AreFlagsOf}
use Rattle.account_rules.proofs.Listings.{NoneBroken}
use Rattle.account_rules.proofs.listed.first_fault.Given as goal

abbrev pub invariant-loop-at : goal.invariant-loop-at
invariant-loop-at l = record {
  seen : AreFlagsOf (is_listed (take l.at l.metas)) l.seen;
  none : NoneBroken l.program l.metas (accounts_of l.before) (accounts_of l.after) l.at;
}
