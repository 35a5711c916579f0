use Rattle.std.proofs.Common.{take}
use Rattle.sol_base.specs.Metas.{is_listed_writable}
use Rattle.account_rules.specs.AccountRules.{AreFlagsOf}
use Rattle.account_rules.proofs.listed.writable_flags.Given as goal

abbrev pub invariant-loop-meta : goal.invariant-loop-meta
invariant-loop-meta l = AreFlagsOf (is_listed_writable (take l.meta-index l.metas)) l.flags
