use Rattle.std.proofs.Common.{◌≡◌, ◌≤◌, [], length, take}
use Rattle.lock_table.specs.Numbers.{with_keys}
use Rattle.lock_table.proofs.keys.KeyTable.in_order.Given as goal

abbrev pub invariant-loop-key : goal.invariant-loop-key
invariant-loop-key l = record {
  keys : l.table ≡ with_keys [] (take l.key-index l.keys);
  few : length l.table ≤ l.key-index;
}
