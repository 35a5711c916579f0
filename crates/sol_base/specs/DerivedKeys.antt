-- Keys that are the SHA-256 (FIPS 180-4) of others and of seeds (Solana; that a program key may lie
-- on the curve is the project's own).
use Rattle.std.specs.Prelude.{ℕ, Bool, List, ◌++◌, length, codes, nat_lt, nat_eq, Result, Ok, Err, if◌then◌else◌}
use Rattle.std.specs.List.{ends_with, flat_map, list_any}
use Rattle.sha2.specs.Sha256.{sha256}
use Rattle.sol_base.specs.declared.key.Key.{Key}
use Rattle.sol_base.specs.declared.derived.TheConstants.{MAX_SEED_LEN, MAX_SEEDS}
use Rattle.sol_base.specs.declared.derived.SeedFault.{SeedFault}
use Rattle.sol_base.specs.declared.derived.SeedFault.TheVariants.{TooLong, IllegalOwner}
use Rattle.sol_base.specs.declared.derived.SeedsFault.{SeedsFault}
use Rattle.sol_base.specs.declared.derived.SeedsFault.TheVariants.{TooMany, TooLong as SeedTooLong}

-- the text that ends what a program key is the hash of
abbrev pub marker : List ℕ
marker = codes "ProgramDerivedAddress"

-- the most bytes of a seed, and the most seeds of a program key (Solana)
abbrev pub max_seed_len : ℕ
max_seed_len = MAX_SEED_LEN

abbrev pub max_seeds : ℕ
max_seeds = MAX_SEEDS

-- the key of a base, a seed and an owner: the hash of the three
abbrev pub seed_key_of : Key → List ℕ → Key → Result Key SeedFault
seed_key_of base seed owner =
    if nat_lt max_seed_len (length seed) then Err TooLong else
    if ends_with nat_eq owner.0 marker then Err IllegalOwner else
    Ok (record { 0 = sha256 (base.0 ++ seed ++ owner.0) })

-- the hash of the seeds, the program and the text
abbrev pub signing_key_of : List (List ℕ) → Key → Key
signing_key_of seeds program =
    record { 0 = sha256 (flat_map (λ seed. seed) seeds ++ program.0 ++ marker) }

-- a seed is too long
abbrev pub has_long : List (List ℕ) → Bool
has_long seeds = list_any (λ seed. nat_lt max_seed_len (length seed)) seeds

-- the key that a program signs for by seeds
abbrev pub program_key_of : List (List ℕ) → Key → Result Key SeedsFault
program_key_of seeds program =
    if nat_lt max_seeds (length seeds) then Err TooMany else
    if has_long seeds then Err SeedTooLong else
    Ok (signing_key_of seeds program)
