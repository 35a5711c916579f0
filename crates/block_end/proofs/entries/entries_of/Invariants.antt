use Rattle.std.proofs.Common.{◌≡◌, ◌++◌, length, map, take}
use Rattle.std.specs.List.{zip}
use Rattle.std.specs.Vec.Iter.{into_iter_items}
use Rattle.block_end.specs.Blocks.{entry_of}
use Rattle.block_end.proofs.entries.entries_of.Given as goal

-- each outcome so far stands beside its transaction
abbrev pub invariant-loop-outcome : goal.invariant-loop-outcome
invariant-loop-outcome l = record {
  so_far : l.entries ≡ map (entry_of l.wires) (zip (take (length l.yielded) l.order) l.yielded);
  count : length l.entries ≡ length l.yielded;
  whole : l.yielded ++ into_iter_items l.outcome-iterator ≡ l.fn.outcomes;
}
