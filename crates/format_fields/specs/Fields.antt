-- Fields of a format that are keys and hashes.
use Rattle.std.specs.Prelude.{ℕ, List, Result}
use Rattle.spec_base.specs.Reading.{field_at, read_as}
use Rattle.sol_base.specs.declared.key.Key.{Key}
use Rattle.sol_base.specs.declared.key.Hash32.{Hash32}

-- a field that is a key, and one that is a hash
abbrev pub key_at : {E : Type 0} → (ℕ → E) → ℕ → List ℕ → Result (Key × List ℕ) E
key_at truncated total bytes =
    read_as (λ field. record { 0 = field }) (field_at truncated total 32) bytes

abbrev pub hash_at : {E : Type 0} → (ℕ → E) → ℕ → List ℕ → Result (Hash32 × List ℕ) E
hash_at truncated total bytes =
    read_as (λ field. record { 0 = field }) (field_at truncated total 32) bytes
