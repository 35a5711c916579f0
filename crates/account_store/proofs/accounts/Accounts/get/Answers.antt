use Rattle.std.proofs.Common.{ap, sym, ◌∙◌}
use Rattle.account_store.specs.State.{State, get}
use Rattle.account_store.proofs.SharedLaws.{get-state_seen, option_map-copied}
use Rattle.account_store.proofs.accounts.Accounts.get.Goals as goal

pub returns-clause-value : goal.returns-clause-value
returns-clause-value c = option_map-copied _ _ c.get.ensures.value ∙ sym (get-state_seen c.self.inside.tree.entries c.args.key.now) ∙ ap (λ (s : State). get s c.args.key.now) c.self.view_is
