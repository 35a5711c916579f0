-- Keys and hashes are read as they are spelled.
use Rattle.std.proofs.Common.{ℕ, List, refl}
use Rattle.spec_base.proofs.Formats.{Reads, field_reads, read_as_reads}
use Rattle.sol_base.specs.declared.key.Key.{Key}
use Rattle.sol_base.specs.declared.key.Hash32.{Hash32}
use Rattle.sol_base.specs.Keys.{IsKey, IsHash, key_bytes, hash_bytes}
use Rattle.format_fields.specs.Fields.{key_at, hash_at}

pub key_reads : {E : Type 0} (truncated : ℕ → E) (total : ℕ) → Reads (key_at truncated total) key_bytes IsKey
key_reads truncated total = read_as_reads (λ (field : List ℕ). let key : Key = record { 0 = field } in key) (λ key. key.0) (λ _. refl) (λ _. refl) (field_reads truncated total 32)

pub hash_reads : {E : Type 0} (truncated : ℕ → E) (total : ℕ) → Reads (hash_at truncated total) hash_bytes IsHash
hash_reads truncated total = read_as_reads (λ (field : List ℕ). let hash : Hash32 = record { 0 = field } in hash) (λ hash. hash.0) (λ _. refl) (λ _. refl) (field_reads truncated total 32)
