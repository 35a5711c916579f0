use Rattle.std.proofs.Common.{List, sym, ap, subst, ◌∙◌}
use Rattle.sol_base.specs.declared.key.Key.{Key}
use Rattle.account_store.specs.Shared.{Shared, state_seen, IsKept}
use Rattle.account_store.proofs.Walks.{made_is}
use Rattle.account_store.proofs.ascending.Ascending.into_accounts.Goals as goal

pub invariant_of-result : goal.invariant_of-result
invariant_of-result c =
    subst (λ (es : List (Key × Shared)). IsKept es c.self.inside.total)
    (sym (made_is c.self.inside.entries.items c.in_ok-tree_of.field-0 c.self.invariant.ascends
    c.in_ok-tree_of.ensures)) c.self.invariant

pub returns : goal.returns
returns c = ap state_seen (made_is c.self.inside.entries.items c.in_ok-tree_of.field-0 c.self.invariant.ascends c.in_ok-tree_of.ensures) ∙ c.self.view_is
