use Rattle.std.proofs.Common.{[], List, ◌∙◌, sym, ap, subst}
use Rattle.std.specs.List.Sorted.{IsStrictlySortedBy}
use Rattle.std.proofs.lemmas.Result.{IfOk-weaker}
use Rattle.sol_base.specs.declared.key.Key.{Key}
use Rattle.sol_base.specs.Keys.{key_cmp}
use Rattle.bank_law.specs.Job.{has_key}
use Rattle.lock_table.specs.Numbers.{with_keys}
use Rattle.lock_table.proofs.Tables.{with_keys-sorted}
use Rattle.lock_table.proofs.keys.KeyTable.of_keys.Goals as goal

pub returns-clause-ascend : goal.returns-clause-ascend
returns-clause-ascend c =
    IfOk-weaker c.in_order.result _ _ (λ (table : List Key) is.
    subst (IsStrictlySortedBy key_cmp) (sym (is ∙ ap (with_keys []) c.as_slice.ensures.value ∙ with_keys-sorted c.sort_keys.new.keys.items c.sort_keys.ensures.ascend)) c.sort_keys.ensures.ascend) c.in_order.ensures

pub returns-clause-same : goal.returns-clause-same
returns-clause-same c =
    IfOk-weaker c.in_order.result _ _ (λ (table : List Key) is. λ key.
    ap (has_key key) (is ∙ ap (with_keys []) c.as_slice.ensures.value ∙ with_keys-sorted c.sort_keys.new.keys.items c.sort_keys.ensures.ascend) ∙ c.sort_keys.ensures.same key) c.in_order.ensures
