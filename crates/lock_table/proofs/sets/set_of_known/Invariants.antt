use Rattle.std.proofs.Common.{◌≡◌, ◌≤◌, length, take, vec_capacity}
use Rattle.lock_table.specs.Numbers.{Numbers}
use Rattle.lock_table.proofs.sets.set_of_known.Given as goal

abbrev pub invariant-loop-lock : goal.invariant-loop-lock
invariant-loop-lock l = record {
  set : Numbers l.table (take l.lock-index l.locks) l.numbered.items;
  count : length l.numbered.items ≡ l.lock-index;
  capacity : length l.locks ≤ vec_capacity l.numbered;
}
