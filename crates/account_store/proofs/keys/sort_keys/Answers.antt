use Rattle.std.proofs.Common.{sym, subst, ap, ◌∙◌, arith}
use Rattle.std.specs.List.Sorted.{IsStrictlySortedBy}
use Rattle.std.proofs.lemmas.List.Filters.{dedup_is}
use Rattle.sol_base.specs.Keys.{key_cmp, same_key, has_key}
use Rattle.account_store.proofs.SortedKeys.{ascend-dedup, has_key-sorted}
use Rattle.account_store.proofs.keys.sort_keys.Goals as goal

pub returns : goal.returns
returns c =
    let kept = dedup_is same_key c.sort_unstable.new.self.items c.dedup.new.self.items c.dedup.ensures.filtered in
    record {
      ascend = subst (IsStrictlySortedBy key_cmp) (sym kept) (ascend-dedup c.sort_unstable.new.self.items c.sort_unstable.ensures.sorted);
      same = λ key. ap (has_key key) kept ∙ has_key-sorted c.args.keys.now.items c.sort_unstable.new.self.items key c.sort_unstable.ensures.permutation;
      fewer = omega (arith, c.dedup.ensures.bound, c.sort_unstable.ensures.len);
    }
