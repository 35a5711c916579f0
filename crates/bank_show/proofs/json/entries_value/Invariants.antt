use Rattle.std.proofs.Common.{◌≡◌, map, take}
use Rattle.serde_json.specs.View.{view}
use Rattle.bank_show.specs.Show.{entry_json}
use Rattle.bank_show.proofs.json.entries_value.Given as goal

abbrev pub invariant-loop-entry : goal.invariant-loop-entry
invariant-loop-entry l = map view l.values.items ≡ map entry_json (take l.entry-index l.entries)
