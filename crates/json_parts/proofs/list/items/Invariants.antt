use Rattle.std.proofs.Common.{◌≡◌, drop, map}
use Rattle.serde_json.specs.View.{view}
use Rattle.json_parts.specs.Parts.{items_in}
use Rattle.json_parts.proofs.Items.{joined}
use Rattle.json_parts.proofs.list.items.Given as goal

-- what was read and what is left give what the whole gives
abbrev pub invariant-loop-at : goal.invariant-loop-at
invariant-loop-at g l = joined l.out (items_in g.P.Part.part_in l.at (map view (drop l.at l.values))) ≡ items_in g.P.Part.part_in 0 (map view l.values)
