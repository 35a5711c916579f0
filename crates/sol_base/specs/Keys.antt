-- Keys and hashes: 32 bytes each, in the order of their bytes.
use Rattle.std.specs.Prelude.{◌≡◌, ℕ, Bool, List, length, nat_eq, refl}
use Rattle.std.specs.Ordering.{nat_cmp}
use Rattle.std.specs.declared.cmp.Ordering.{Ordering}
use Rattle.std.specs.Coded.{Coded, code_by, coded_list, coded_ℕ}
use Rattle.std.specs.Cmp.Lexicographic.{slice_cmp, pointwise}
use Rattle.std.specs.List.{list_any}
use Rattle.sol_base.specs.declared.key.Key.{Key}
use Rattle.sol_base.specs.declared.key.Hash32.{Hash32}

-- a key has 32 bytes (Solana)
abbrev pub IsKey : Key → Type 0
IsKey key = length key.0 ≡ 32

-- a hash has 32 bytes (FIPS 180-4)
abbrev pub IsHash : Hash32 → Type 0
IsHash hash = length hash.0 ≡ 32

-- all bytes are the same
abbrev pub same_key : Key → Key → Bool
same_key a b = pointwise nat_eq a.0 b.0

abbrev pub same_hash : Hash32 → Hash32 → Bool
same_hash a b = pointwise nat_eq a.0 b.0

-- the key stands in the list
abbrev pub has_key : Key → List Key → Bool
has_key key keys = list_any (λ k. same_key key k) keys

-- the first byte that differs decides
abbrev pub key_cmp : Key → Key → Ordering
key_cmp a b = slice_cmp nat_cmp a.0 b.0

-- the first byte that differs decides
abbrev pub hash_cmp : Hash32 → Hash32 → Ordering
hash_cmp a b = slice_cmp nat_cmp a.0 b.0

-- what their bytes are in a format
abbrev pub key_bytes : Key → List ℕ
key_bytes key = key.0

abbrev pub hash_bytes : Hash32 → List ℕ
hash_bytes hash = hash.0

-- keys as the keys of a finite map
abbrev pub coded_key : Coded Key
coded_key = code_by (List ℕ) (coded_list coded_ℕ) (λ key. key.0) (λ bytes. record { 0 = bytes })
    (λ _. refl)
