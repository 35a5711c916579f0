use Rattle.std.proofs.Common.{ap, sym, ◌∙◌}
use Rattle.account_store.specs.State.{State, len}
use Rattle.account_store.proofs.SharedLaws.{len-state_seen}
use Rattle.account_store.proofs.accounts.Accounts.len.Goals as goal

pub returns-clause-len : goal.returns-clause-len
returns-clause-len c = c.len.ensures.len ∙ sym (len-state_seen c.self.inside.tree.entries c.self.invariant.ascends) ∙ ap (λ (s : State). len s) c.self.view_is
