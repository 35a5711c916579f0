use Rattle.std.proofs.Common.{◌≡◌, ◌-◌}
use Rattle.spec_base.specs.Reading.{many_after, many}
use Rattle.format_fields.proofs.many.read_many.Given as goal

-- what was read and what is left give what the whole gives
abbrev pub invariant-loop : goal.invariant-loop
invariant-loop g l = many_after (λ _ rest. g.T.Item.item_at l.total rest) l.items (l.count - l.counter) l.rest ≡ many (g.T.Item.item_at l.total) l.count l.bytes
