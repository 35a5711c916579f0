use Rattle.std.proofs.Common.{subst}
use Rattle.std.specs.List.{IsDistinct}
use Rattle.bank_law.specs.Job.{same_key}
use Rattle.lock_table.proofs.HashedLaws.{distinct_in}
use Rattle.lock_table.proofs.keys.KeyTable.len.Goals as goal

pub returns-clause-distinct : goal.returns-clause-distinct
returns-clause-distinct c = subst (IsDistinct same_key) c.self.view_is (distinct_in c.self.inside.keys.keys c.len.ensures.unique)
