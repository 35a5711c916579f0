use Rattle.std.proofs.Common.{[]}
use Rattle.sol_base.specs.declared.key.Key.{Key}
use Rattle.account_store.proofs.Joins.{removed_first, removed_next, not_before}
use Rattle.account_store.proofs.accounts.Accounts.remove_each.Goals as goal

pub loop-key-init : goal.loop-key-init
loop-key-init c = record {
  removed = removed_first c.args.self _ c.in_ok-accounts.ensures.items;
  state = c.total-total.ensures.state;
}

pub loop-key-preserved : goal.loop-key-preserved
loop-key-preserved c =
    let d : Key = record { 0 = [] } in
    record {
      removed =
          removed_next c.args.self c.loop-key.self c.remove.new.self c.args.keys.now c.loop-key.key-index d c.loop-key.accounts.items c.push.new.self.items c.remove.result c.loop-key-test.true
          (not_before c.args.keys.now c.loop-key.key-index d c.loop-key-test.true c.requires) c.loop-key.invariant.removed c.remove.ensures.value c.remove.ensures.removed c.in_ok-push.ensures.items;
      state = c.remove.ensures.state;
    }
