use Rattle.std.proofs.Common.{take}
use Rattle.account_store.specs.State.{IsState}
use Rattle.account_store.proofs.Joins.{RemovedSoFar}
use Rattle.account_store.proofs.accounts.Accounts.remove_each.Given as goal

abbrev pub invariant-loop-key : goal.invariant-loop-key
invariant-loop-key l = record {
  removed : RemovedSoFar l.fn.self l.self (take l.key-index l.keys) l.accounts.items;
  state : IsState l.self;
}
