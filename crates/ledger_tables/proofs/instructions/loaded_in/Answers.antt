use Rattle.std.proofs.Common.{nat_lt, length, sym, ◌∙◌}
use Rattle.std.proofs.lemmas.Bool.{or_parts}
use Rattle.message_codec.specs.Compact.{max_count}
use Rattle.message_codec.specs.Roles.{has_repeated_key}
use Rattle.message_codec.proofs.SaneLaws.{are_distinct}
use Rattle.ledger_tables.proofs.instructions.loaded_in.Goals as goal

pub resolve-requires-clause-apart : goal.resolve-requires-clause-apart
resolve-requires-clause-apart c =
    let message = c.args.message.now in
    are_distinct message.keys (or_parts (nat_lt max_count (length message.lookups)) (has_repeated_key message.keys) (sym c.has_odd_keys.ensures ∙ c.if-has_odd_keys.false)).1
