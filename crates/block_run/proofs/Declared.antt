-- The keys that the transactions of a block declare, and the keys that they lock.
use Rattle.std.proofs.Common.{◌≡◌, ◌≤◌, ◌<◌, ◌+◌, ◌*◌, ◌∷◌, [], ◌++◌, ℕ, zero, suc, Bool, true, false, ◌||◌, List, length, get_or, map, All, refl, sym, ap, subst, ◌∙◌, arith, length-append}
use Rattle.std.specs.Prelude.{slice_get}
use Rattle.std.specs.List.{flat_map}
use Rattle.std.proofs.lemmas.List.{get_or-map, length-map}
use Rattle.std.proofs.lemmas.List.Concat.{flat_map-cons}
use Rattle.std.proofs.lemmas.List.Elements.{All-head, All-tail}
use Rattle.std.proofs.lemmas.List.Folds.{list_any_at, list_any-append}
use Rattle.sol_base.specs.declared.key.Key.{Key}
use Rattle.sol_base.specs.declared.lock.Lock.{Lock}
use Rattle.sol_base.specs.Keys.{has_key, same_key}
use Rattle.sol_base.specs.Limits.{max_transaction_keys}
use Rattle.sol_base.specs.Locks.{lock_keys}
use Rattle.sol_base.proofs.KeyLaws.{same_key-self}
use Rattle.message_codec.specs.Roles.{all_keys}
use Rattle.message_codec.proofs.RoleLaws.{keys_of_locks}
use Rattle.bank_core.specs.Openings.{AreKnown}
use Rattle.admission.specs.declared.chosen.Chosen.{Chosen}
use Rattle.admission.specs.Chosen.{IsChosen}
use Rattle.tx_exec.specs.AdmittedBlock.{locks_at}
use Rattle.block_run.specs.SerialRun.{AreKeysIn, keys_in}
use Rattle.tx_exec.proofs.Fitting.{keys_few as few_keys}

keys_in-cons : (t : Chosen) (ts : List Chosen) → keys_in (t ∷ ts) ≡ all_keys t.tx.message t.loaded ++ keys_in ts
keys_in-cons t ts = flat_map-cons (λ (t : Chosen). all_keys t.tx.message t.loaded) t ts

-- they are few
pub keys_few : (order : List Chosen) → All IsChosen order → length (keys_in order) ≤ max_transaction_keys * length order
keys_few [] all = omega arith
keys_few (t ∷ ts) all =
    let here = few_keys t (All-head IsChosen t ts all) in
    let rest = keys_few ts (All-tail IsChosen t ts all) in
    let parts = ap length (keys_in-cons t ts) ∙ length-append (all_keys t.tx.message t.loaded) (keys_in ts) in
    omega (arith, here, rest, parts)

has_key-cons : (key : Key) (t : Chosen) (ts : List Chosen) → has_key key (keys_in (t ∷ ts)) ≡ (has_key key (all_keys t.tx.message t.loaded) || has_key key (keys_in ts))
has_key-cons key t ts = ap (has_key key) (keys_in-cons t ts) ∙ list_any-append (λ k. same_key key k) (all_keys t.tx.message t.loaded) (keys_in ts)

or_true : (b : Bool) → (b || true) ≡ true
or_true b = elim b as (λ (x : Bool). (x || true) ≡ true) [ true ↦ refl | false ↦ refl ]

-- a transaction declares the keys that it locks
locked : (t : Chosen) → IsChosen t → (i : ℕ) (d : Lock) → i < length t.locks → has_key (get_or t.locks i d).key (all_keys t.tx.message t.loaded) ≡ true
locked t is i d below =
    let key = (get_or t.locks i d).key in
    let all : lock_keys t.locks ≡ all_keys t.tx.message t.loaded = ap (map (λ (lock : Lock). lock.key)) is.locked ∙ keys_of_locks t.tx.message t.loaded in
    let long = length-map t.locks (λ (lock : Lock). lock.key) in
    subst (λ ks. has_key key ks ≡ true) all
    (list_any_at (λ k. same_key key k) (lock_keys t.locks) i key (omega (arith, below, long))
    (ap (same_key key) (get_or-map (λ (lock : Lock). lock.key) t.locks i d key below) ∙ same_key-self key))

declared : (order : List Chosen) → All IsChosen order → (i : ℕ) → i < length order → All (λ lock. has_key lock.key (keys_in order) ≡ true) (locks_at (slice_get order i))
declared [] all i below = absurd (omega (arith, below))
declared (t ∷ ts) all zero below = λ j d l.
    let key = (get_or t.locks j d).key in
    has_key-cons key t ts ∙ ap (λ b. b || has_key key (keys_in ts)) (locked t (All-head IsChosen t ts all) j d l)
declared (t ∷ ts) all (suc i) below = λ j d l.
    let key = (get_or (locks_at (slice_get ts i)) j d).key in
    has_key-cons key t ts ∙ ap (λ b. has_key key (all_keys t.tx.message t.loaded) || b) (declared ts (All-tail IsChosen t ts all) i (omega (arith, below)) j d l)
    ∙ or_true (has_key key (all_keys t.tx.message t.loaded))

-- the keys of all locks are known
pub known : (order : List Chosen) (keys : List Key) → All IsChosen order → AreKeysIn order keys → (i : ℕ) → i < length order → AreKnown keys (locks_at (slice_get order i))
known order keys all are i below = λ j d l. are.same (get_or (locks_at (slice_get order i)) j d).key ∙ declared order all i below j d l
