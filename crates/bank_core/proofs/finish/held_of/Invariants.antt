use Rattle.std.proofs.Common.{◌≡◌, ◌++◌, length}
use Rattle.std.specs.List.{zip}
use Rattle.std.specs.Vec.Iter.{into_iter_items}
use Rattle.bank_core.specs.Slots.{held_in}
use Rattle.bank_core.proofs.finish.held_of.Given as goal

-- each slot so far stands beside its key
abbrev pub invariant-loop-slot : goal.invariant-loop-slot
invariant-loop-slot l = record {
  so_far : l.held.items ≡ held_in (zip l.table l.yielded);
  count : l.at ≡ length l.yielded;
  whole : l.yielded ++ into_iter_items l.slot-iterator ≡ l.fn.slots.items;
}
