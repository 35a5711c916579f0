use Rattle.std.proofs.Common.{◌≡◌, ℕ, ◌<◌, ◌≤◌, length, map, take}
use Rattle.message_codec.specs.Parsing.{parsed_of}
use Rattle.intake.specs.Layout.{LeadsToParsed}
use Rattle.intake.proofs.gathering.by_position.Given as goal

-- what was taken out so far, and the tickets of the positions that are left
abbrev pub invariant-loop-position : goal.invariant-loop-position
invariant-loop-position l = record {
  parsed : l.parsed ≡ map parsed_of (take l.position l.wires);
  tickets : (p : ℕ) → l.position ≤ p → p < length l.wires → LeadsToParsed l.wires l.places l.tickets.items p;
}
