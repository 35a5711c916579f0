use Rattle.std.proofs.Common.{◌≡◌, ◌++◌, Some, map}
use Rattle.std.specs.Option.{option_map}
use Rattle.std.specs.Vec.Iter.{into_iter_items}
use Rattle.bank_core.specs.Slots.{value_of, in_slot}
use Rattle.bank_core.proofs.opening.in_slots.Given as goal

abbrev pub invariant-loop-account : goal.invariant-loop-account
invariant-loop-account l = record {
  filled : map (option_map value_of) l.slots.items ≡ map (λ account. Some (in_slot (option_map value_of account))) l.yielded;
  whole : l.yielded ++ into_iter_items l.account-iterator ≡ l.fn.accounts.items;
}
