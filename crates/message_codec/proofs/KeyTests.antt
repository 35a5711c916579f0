-- The test for a reserved key finds exactly the keys of the table.
use Rattle.std.proofs.Common.{◌≡◌, Bool, Contains, IsTrue, ◌↔◌, sym, ◌∙◌}
use Rattle.std.proofs.lemmas.Map.Views.{list_any-from_Contains, Contains-from_any}
use Rattle.sol_base.specs.declared.key.Key.{Key}
use Rattle.sol_base.proofs.KeyLaws.{same_key-true, same_key-equiv}
use Rattle.message_codec.specs.Roles.{is_reserved, reserved_keys}

pub reserved_listed : (key : Key) (found : Bool) → found ≡ is_reserved key → IsTrue found ↔ Contains reserved_keys key
reserved_listed key found e =
    (λ yes. Contains-from_any same_key-true key reserved_keys (sym e ∙ yes), λ there. e ∙ list_any-from_Contains same_key-equiv key reserved_keys there)
