use Rattle.std.proofs.Common.{refl}
use Rattle.sol_base.proofs.laws.fixed_keys_are_as_published.Goals as goal

pub returns-clause-compute_budget : goal.returns-clause-compute_budget
returns-clause-compute_budget c = refl

pub returns-clause-clock : goal.returns-clause-clock
returns-clause-clock c = refl

pub returns-clause-rent : goal.returns-clause-rent
returns-clause-rent c = refl
