-- Lists that are not too long are countable.
use Rattle.std.proofs.Common.{◌≡◌, ◌||◌, Bool, false, List, get_or, All, arith}
use Rattle.std.specs.List.{list_any}
use Rattle.std.proofs.lemmas.Bool.{or_parts, false_from_ne_true}
use Rattle.std.proofs.lemmas.Bool.Decides.{nat_tests}
use Rattle.std.proofs.lemmas.List.Folds.{list_any_at}
use Rattle.message_codec.specs.declared.message.Message.{Message}
use Rattle.message_codec.specs.Wire.{HasShortLists, IsCountable}
use Rattle.tx_build.specs.Built.{is_long, is_long_instruction, is_long_lookup, has_long_instructions, has_long_lookups, is_long_message}

none_passes : {X : Type 0} (test : X → Bool) (xs : List X) → list_any test xs ≡ false → All (λ x. test x ≡ false) xs
none_passes test xs none k d below = false_from_ne_true (test (get_or xs k d)) (λ here. let found = list_any_at test xs k d below here in cc)

countable : {X : Type 0} (xs : List X) → is_long xs ≡ false → IsCountable xs
countable xs short = grind (arith, nat_tests)

pub short_lists : (message : Message) → is_long_message message ≡ false → HasShortLists message
short_lists message short =
    let outer = or_parts (is_long message.keys || has_long_instructions message.instructions) (has_long_lookups message.lookups) short in
    let inner = or_parts (is_long message.keys) (has_long_instructions message.instructions) outer.0 in
    let instructions = or_parts (is_long message.instructions) (list_any is_long_instruction message.instructions) inner.1 in
    let lookups = or_parts (is_long message.lookups) (list_any is_long_lookup message.lookups) outer.1 in
    record {
      keys = countable message.keys inner.0;
      instructions = countable message.instructions instructions.0;
      accounts = λ k d below. let one = get_or message.instructions k d
          in countable one.accounts (or_parts (is_long one.accounts) (is_long one.input)
          (none_passes is_long_instruction message.instructions instructions.1 k d below)).0;
      inputs = λ k d below. let one = get_or message.instructions k d
          in countable one.input (or_parts (is_long one.accounts) (is_long one.input)
          (none_passes is_long_instruction message.instructions instructions.1 k d below)).1;
      lookups = countable message.lookups lookups.0;
      writable = λ k d below. let one = get_or message.lookups k d
          in countable one.writable (or_parts (is_long one.writable) (is_long one.readonly)
          (none_passes is_long_lookup message.lookups lookups.1 k d below)).0;
      readonly = λ k d below. let one = get_or message.lookups k d
          in countable one.readonly (or_parts (is_long one.writable) (is_long one.readonly)
          (none_passes is_long_lookup message.lookups lookups.1 k d below)).1;
    }
