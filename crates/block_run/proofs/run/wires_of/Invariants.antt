use Rattle.std.proofs.Common.{◌≡◌, map, take}
use Rattle.block_record.specs.declared.block.Entry.{Entry}
use Rattle.block_run.proofs.run.wires_of.Given as goal

abbrev pub invariant-loop-entry : goal.invariant-loop-entry
invariant-loop-entry l = l.wires ≡ map (λ (entry : Entry). entry.wire) (take l.entry-index l.entries)
