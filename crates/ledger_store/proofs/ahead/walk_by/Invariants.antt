use Rattle.std.proofs.Common.{◌≡◌, map}
use Rattle.std.specs.Vec.Iter.{into_iter_items}
use Rattle.snapshot_codec.specs.Snapshot.{HasWidths, IsReadable}
use Rattle.ledger_store.specs.Ahead.{seen, walked_by}
use Rattle.ledger_store.specs.Watching.{settled}
use Rattle.ledger_store.proofs.ahead.walk_by.Given as goal

-- what is still to be walked gives the same
abbrev pub invariant-loop-file : goal.invariant-loop-file
invariant-loop-file g l = record {
  readable : IsReadable l.newest;
  widths : HasWidths l.newest;
  told : settled l.fn.files (walked_by (map seen l.fn.ahead) l.fn.before) ≡ settled l.files (walked_by (map seen (into_iter_items l.file-iterator)) l.newest);
}
