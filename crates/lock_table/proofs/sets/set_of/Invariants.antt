use Rattle.std.proofs.Common.{◌≡◌, ◌+◌, ◌^◌, ◌<◌, ◌≤◌, length, take, vec_capacity}
use Rattle.bank_law.specs.Job.{lock_keys}
use Rattle.lock_table.specs.Numbers.{Numbers, with_keys}
use Rattle.lock_table.proofs.sets.set_of.Given as goal

abbrev pub invariant-loop-lock : goal.invariant-loop-lock
invariant-loop-lock l = record {
  set : Numbers l.table (take l.lock-index l.locks) l.numbered.items;
  keys : l.table ≡ with_keys l.initial.table (lock_keys (take l.lock-index l.locks));
  count : length l.numbered.items ≡ l.lock-index;
  capacity : length l.locks ≤ vec_capacity l.numbered;
  room : length l.table + length l.locks < 2 ^ 32 + l.lock-index;
}
