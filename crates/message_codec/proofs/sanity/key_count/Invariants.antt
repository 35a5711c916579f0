use Rattle.std.proofs.Common.{◌≡◌, ◌≤◌, ◌+◌, ◌*◌, length, take, sum_by}
use Rattle.message_codec.specs.Compact.{max_count}
use Rattle.message_codec.specs.Roles.{load_count}
use Rattle.message_codec.proofs.sanity.key_count.Given as goal

abbrev pub invariant-loop-lookup : goal.invariant-loop-lookup
invariant-loop-lookup l = record {
  counted : l.count ≡ length l.message.keys + sum_by load_count (take l.lookup-index l.message.lookups);
  small : l.count ≤ max_count + 2 * max_count * l.lookup-index;
}
