use Rattle.std.proofs.Common.{◌-◌, ◌≤◌, ap, sym, subst, ◌∙◌, add-zero}
use Rattle.std.specs.Prelude.{option_map}
use Rattle.std.specs.Arc.{arc_value}
use Rattle.account_store.specs.State.{State, get, remove}
use Rattle.account_store.specs.Shared.{state_seen, shared_lamports}
use Rattle.account_store.proofs.SharedLaws.{get-state_seen, state_seen-remove_entry, IsKept-remove, shared_lamports-le}
use Rattle.account_store.proofs.accounts.Accounts.remove.Goals as goal

pub total_after-self-inside-requires-clause-held : goal.total_after-self-inside-requires-clause-held
total_after-self-inside-requires-clause-held c =
    let here = shared_lamports-le c.self.inside.tree.entries c.self.inside.total c.args.key.now c.self.invariant in
    subst (λ n. n ≤ c.self.inside.total) (sym (ap shared_lamports c.remove-removed.ensures.value)) here

pub invariant_of-self : goal.invariant_of-self
invariant_of-self c =
    let total = c.self.inside.total in
    let same = c.total_after-self-inside.ensures ∙ add-zero (total - shared_lamports c.remove-removed.result) ∙ ap (λ n. total - n) (ap shared_lamports c.remove-removed.ensures.value) in
    IsKept-remove c.self.inside.tree.entries _ total _ c.args.key.now c.self.invariant c.remove-removed.ensures.entries c.remove-removed.ensures.ordered same

pub returns-clause-state : goal.returns-clause-state
returns-clause-state c =
    let total = c.self.inside.total in
    let same = c.total_after-self-inside.ensures ∙ add-zero (total - shared_lamports c.remove-removed.result) ∙ ap (λ n. total - n) (ap shared_lamports c.remove-removed.ensures.value) in
    (IsKept-remove c.self.inside.tree.entries _ total _ c.args.key.now c.self.invariant c.remove-removed.ensures.entries c.remove-removed.ensures.ordered same).is_state

pub returns-clause-value : goal.returns-clause-value
returns-clause-value c =
    ap (option_map arc_value) c.remove-removed.ensures.value
    ∙ sym (get-state_seen c.self.inside.tree.entries c.args.key.now)
    ∙ ap (λ (s : State). get s c.args.key.now) c.self.view_is

pub returns-clause-removed : goal.returns-clause-removed
returns-clause-removed c =
    ap state_seen c.remove-removed.ensures.entries
    ∙ state_seen-remove_entry c.self.inside.tree.entries c.args.key.now c.self.invariant.ascends
    ∙ ap (λ (s : State). remove s c.args.key.now) c.self.view_is
