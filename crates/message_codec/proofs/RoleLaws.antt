-- What the keys of a sane transaction may do, and what its instructions name.
use Rattle.std.proofs.Common.{append_assoc, zero-add, ◌≡◌, ◌<◌, ◌≤◌, ◌+◌, ◌-◌, ℕ, zero, suc, List, [], ◌∷◌, ◌++◌, length, map, Option, Some, None, true, false, refl, sym, ap, subst, ◌∙◌, All, arith}
use Rattle.std.specs.Prelude.{nat_eq, nat_lt, slice_get, option_map}
use Rattle.std.specs.List.{enumerate_from, AllByRecursion}
use Rattle.std.specs.Option.{option_map_or}
use Rattle.std.proofs.lemmas.Bool.Decides.{nat_tests}
use Rattle.std.proofs.lemmas.List.{length-append, length-map}
use Rattle.std.proofs.lemmas.List.Elements.{All-weaker, recursion_from_All, All-from_recursion}
use Rattle.std.proofs.lemmas.List.Folds.{list_any_none}
use Rattle.std.proofs.lemmas.Option.{slice_get-map}
use Rattle.sol_base.specs.declared.key.Key.{Key}
use Rattle.sol_base.specs.declared.lock.Lock.{Lock}
use Rattle.message_codec.specs.declared.message.Instruction.{Instruction}
use Rattle.message_codec.specs.declared.message.Message.{Message}
use Rattle.message_codec.specs.declared.message.Loaded.{Loaded}
use Rattle.message_codec.specs.declared.message.Tx.{Tx}
use Rattle.message_codec.specs.Roles.{IsSane, HasAllLoaded, AreNamed, is_signer_at, is_writable_static, may_write, is_writable_at, is_program, is_reserved, has_reserved_payer, all_keys, key_count, lock_of, locks_of}

pub payer_signs : (tx : Tx) (most : ℕ) → IsSane tx most → is_signer_at tx.message 0 ≡ true
payer_signs tx most is = let t = is.payer in grind (arith, nat_tests)

payer_place : (tx : Tx) (most : ℕ) → IsSane tx most → is_writable_static tx.message.header (length tx.message.keys) 0 ≡ true
payer_place tx most is =
    let t = is.payer in
    let g = is.groups in
    let there : nat_lt 0 (length tx.message.keys) ≡ true = grind (arith, nat_tests) in
    let first : nat_lt 0 (tx.message.header.required - tx.message.header.readonly_signed) ≡ true = grind (arith, nat_tests) in
    rw (there, first) refl

no_program : (instructions : List Instruction) (keys : ℕ) → All (λ instruction. (0 < instruction.program) × (instruction.program < keys)) instructions → is_program instructions 0 ≡ false
no_program instructions keys h = list_any_none (λ instruction. nat_eq instruction.program 0) instructions
    (All-weaker (λ instruction. (0 < instruction.program) × (instruction.program < keys))
    (λ instruction. nat_eq instruction.program 0 ≡ false) (λ instruction e. other instruction.program e.0)
    instructions h)
  where
    other : (program : ℕ) → 0 < program → nat_eq program 0 ≡ false
    other program lt = grind (arith, nat_tests)

-- the payer's key is there, and is not reserved
first_key : (keys more : List Key) → 0 < length keys → has_reserved_payer keys ≡ false → (key : Key) × (slice_get (keys ++ more) 0 ≡ Some key) × (is_reserved key ≡ false)
first_key [] more lt free = absurd (omega arith)
first_key (key ∷ keys) more lt free = (key, refl, free)

pub payer_is_writable : (tx : Tx) (most : ℕ) (loaded : Loaded) → IsSane tx most → is_writable_at tx.message loaded 0 ≡ true
payer_is_writable tx most loaded is =
    let some : 0 < length tx.message.keys = let t = is.payer in let g = is.groups in omega arith in
    let key = first_key tx.message.keys (loaded.writable ++ loaded.readonly) some is.payer_free in
    let there : slice_get (all_keys tx.message loaded) 0 ≡ Some key.0 = ap (λ (l : List Key). slice_get l 0) (append_assoc tx.message.keys loaded.writable loaded.readonly) ∙ key.1 in
    ap (λ (o : Option Key). option_map_or (may_write tx.message loaded 0) o false) there
    ∙ rw (payer_place tx most is, no_program tx.message.instructions (length tx.message.keys) is.programs, key.2) refl

pub all_count : (message : Message) (loaded : Loaded) → HasAllLoaded message loaded → length (all_keys message loaded) ≡ key_count message
all_count message loaded has =
    let a = length-append (message.keys ++ loaded.writable) loaded.readonly in
    let b = length-append message.keys loaded.writable in
    omega (arith, a, b, has)

pub all_most : (tx : Tx) (most : ℕ) (loaded : Loaded) → IsSane tx most → HasAllLoaded tx.message loaded → length (all_keys tx.message loaded) ≤ most
all_most tx most loaded is has = subst (λ n. n ≤ most) (sym (all_count tx.message loaded has)) is.keys

front : (keys more : List Key) (i : ℕ) → i < length keys → slice_get (keys ++ more) i ≡ slice_get keys i
front [] more i lt = absurd (omega arith)
front (key ∷ keys) more zero lt = refl
front (key ∷ keys) more (suc i) lt = front keys more i (omega arith)

pub are_named : (tx : Tx) (most : ℕ) (loaded : Loaded) → IsSane tx most → HasAllLoaded tx.message loaded → All (AreNamed tx.message loaded) tx.message.instructions
are_named tx most loaded is has = All-from_recursion (AreNamed tx.message loaded) tx.message.instructions
    (both tx.message.instructions (recursion_from_All (λ instruction. (0 < instruction.program) × (instruction.program < length tx.message.keys)) tx.message.instructions is.programs)
    (recursion_from_All (λ instruction. All (λ index. index < key_count tx.message) instruction.accounts) tx.message.instructions is.accounts))
  where
    both : (instructions : List Instruction) → AllByRecursion (λ (x : Instruction). (0 < x.program) × (x.program < length tx.message.keys)) instructions
        → AllByRecursion (λ (x : Instruction). All (λ index. index < key_count tx.message) x.accounts) instructions → AllByRecursion (AreNamed tx.message loaded) instructions
    both [] p a = tt
    both (x ∷ xs) p a = (
      record {
        static = p.0.1;
        no_payer = p.0.0;
        program = ap (λ (l : List Key). slice_get l x.program)
            (append_assoc tx.message.keys loaded.writable loaded.readonly)
            ∙ front tx.message.keys (loaded.writable ++ loaded.readonly) x.program p.0.1;
        accounts = subst (λ n. All (λ index. index < n) x.accounts) (sym (all_count tx.message loaded has)) a.0;
      },
      both xs p.1 a.1,
    )

keys_numbered : (message : Message) (loaded : Loaded) (n : ℕ) (keys : List Key) → map (λ (lock : Lock). lock.key) (map (lock_of message loaded) (enumerate_from n keys)) ≡ keys
keys_numbered message loaded n [] = refl
keys_numbered message loaded n (key ∷ keys) = ap (λ (l : List Key). key ∷ l) (keys_numbered message loaded (n + 1) keys)

-- the keys of the locks are all keys
pub keys_of_locks : (message : Message) (loaded : Loaded) → map (λ (lock : Lock). lock.key) (locks_of message loaded) ≡ all_keys message loaded
keys_of_locks message loaded = keys_numbered message loaded 0 (all_keys message loaded)

pub lock_count : (message : Message) (loaded : Loaded) → length (locks_of message loaded) ≡ length (all_keys message loaded)
lock_count message loaded = sym (length-map (locks_of message loaded) (λ (lock : Lock). lock.key)) ∙ ap length (keys_of_locks message loaded)

numbered : (n i : ℕ) (keys : List Key) → slice_get (enumerate_from n keys) i ≡ option_map (λ (key : Key). (n + i, key)) (slice_get keys i)
numbered n i [] = refl
numbered n zero (key ∷ keys) = ap (λ (m : ℕ). let o : Option (ℕ × Key) = Some (m, key) in o) (omega arith)
numbered n (suc i) (key ∷ keys) = numbered (n + 1) i keys ∙ ap (λ m. option_map (λ (key : Key). (m, key)) (slice_get keys i)) (omega arith)

-- the lock at a place is that of the key there
pub lock_each : (message : Message) (loaded : Loaded) (i : ℕ)
    → slice_get (locks_of message loaded) i
    ≡ option_map (λ (key : Key). lock_of message loaded (i, key)) (slice_get (all_keys message loaded) i)
lock_each message loaded i = slice_get-map (lock_of message loaded) (enumerate_from 0 (all_keys message loaded))
    i ∙ ap (option_map (lock_of message loaded)) (numbered 0 i (all_keys message loaded))
    ∙ (mapped (slice_get (all_keys message loaded) i)
    ∙ ap (λ m. option_map (λ (key : Key). lock_of message loaded (m, key))
    (slice_get (all_keys message loaded) i)) (zero-add i))
  where
    mapped : (o : Option Key) → option_map (lock_of message loaded) (option_map (λ (key : Key). (0 + i, key)) o) ≡ option_map (λ (key : Key). lock_of message loaded (0 + i, key)) o
    mapped None = refl
    mapped (Some key) = refl
