use Rattle.std.proofs.Common.{◌≡◌, length, map}
use Rattle.serde_json.specs.View.{members_view}
use Rattle.json_parts.specs.Parts.{names_in}
use Rattle.json_parts.proofs.parts.check_names.Given as goal

-- what is left gives what the whole gives
abbrev pub invariant-loop-name : goal.invariant-loop-name
invariant-loop-name l = names_in (map (λ n. n.now) l.names) (members_view l.rest) ≡ names_in (map (λ n. n.now) l.names) (members_view l.members.entries)

-- those that are left
abbrev pub decreases-loop-name : goal.decreases-loop-name
decreases-loop-name l = length l.rest
