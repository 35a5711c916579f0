-- Keys in lists, values beside them, and locks that meet.
use Rattle.std.proofs.Common.{◌≡◌, Bool, true, false, cond, inl, inr, List, [], ◌∷◌, map, filter, refl, sym, ap, ap₂, subst}
use Rattle.std.proofs.lemmas.Bool.{false≢true, both_ways, cond_both, or_cases, or_left, or_right, and_from}
use Rattle.std.specs.List.{list_any}
use Rattle.sol_base.specs.declared.key.Key.{Key}
use Rattle.sol_base.specs.declared.account.Account.{Account}
use Rattle.sol_base.specs.declared.lock.Lock.{Lock}
pub use Rattle.sol_base.proofs.KeyLaws.{same_key-true, same_key-self, same_key-sym, same_key-equiv}
pub use Rattle.account_store.proofs.SumLaws.{has_key-first, has_key-rest, has_key-none}
use Rattle.bank_law.specs.Job.{same_key, has_key, lock_keys, beside, written_keys}
use Rattle.bank_law.specs.Machine.{meet, clash}

both_same : (a b key : Key) → same_key key a ≡ true → same_key key b ≡ true → same_key a b ≡ true
both_same a b key e f = subst (λ k. same_key k b ≡ true) (same_key-true key a e) f

pub beside-map : (accounts : Key → Account) (key : Key) (ks : List Key) → has_key key ks ≡ true → beside key ks (map accounts ks) ≡ accounts key
beside-map accounts key [] h = absurd (false≢true h)
beside-map accounts key (k ∷ ks) h =
    cond_both (same_key key k) (accounts k) (beside key ks (map accounts ks)) (λ v. v ≡ accounts key)
    (λ t. ap accounts (sym (same_key-true key k t)))
    (λ f. beside-map accounts key ks (elim (or_cases (same_key key k) _ h) [ inl t ↦ absurd (both_ways _ f t) | inr r ↦ r ]))

-- two functions that agree at each key of the list
pub map-same : (f g : Key → Account) (ks : List Key) → ((key : Key) → has_key key ks ≡ true → f key ≡ g key) → map f ks ≡ map g ks
map-same f g [] h = refl
map-same f g (k ∷ ks) h =
    ap₂ (λ (v : Account) (vs : List Account). v ∷ vs) (h k (has_key-first k ks)) (map-same f g ks (λ key m. h key (has_key-rest key k ks m)))

-- what is written is declared
pub written_declared : (locks : List Lock) (key : Key) → has_key key (lock_keys (filter (λ lock. lock.write) locks)) ≡ true → has_key key (lock_keys locks) ≡ true
written_declared [] key h = h
written_declared (x ∷ xs) key h = by_case x.write (written_declared xs key) h
  where
    by_case : (b : Bool) → (has_key key (written_keys xs) ≡ true → has_key key (lock_keys xs) ≡ true)
        → has_key key (lock_keys (cond b (x ∷ filter (λ lock. lock.write) xs) (filter (λ lock. lock.write) xs))) ≡ true → has_key key (lock_keys (x ∷ xs)) ≡ true
    by_case true rest g = elim (or_cases (same_key key x.key) _ g) [ inl t ↦ or_left (same_key key x.key) (has_key key (lock_keys xs)) t | inr r ↦ has_key-rest key x.key (lock_keys xs) (rest r) ]
    by_case false rest g = has_key-rest key x.key (lock_keys xs) (rest g)

-- a lock that writes a key meets a list that has it
meets_any : (a : Lock) (other : List Lock) (key : Key) → same_key key a.key ≡ true → a.write ≡ true → has_key key (lock_keys other) ≡ true → list_any (λ b. meet a b) other ≡ true
meets_any a [] key e w h = absurd (false≢true h)
meets_any a (b ∷ bs) key e w h =
    elim (or_cases (same_key key b.key) _ h) [
      | inl t ↦ or_left _ _ (and_from _ _ (both_same a.key b.key key e t) (or_left a.write b.write w))
      | inr r ↦ or_right (meet a b) _ (meets_any a bs key e w r)
    ]

-- a lock on a key meets a list that writes it
meets_written : (a : Lock) (other : List Lock) (key : Key) → same_key key a.key ≡ true → has_key key (written_keys other) ≡ true → list_any (λ b. meet a b) other ≡ true
meets_written a [] key e h = absurd (false≢true h)
meets_written a (b ∷ bs) key e h = by_case b.write refl (meets_written a bs key e) h
  where
    by_case : (c : Bool) → b.write ≡ c → (has_key key (written_keys bs) ≡ true → list_any (λ o. meet a o) bs ≡ true)
        → has_key key (lock_keys (cond c (b ∷ filter (λ lock. lock.write) bs) (filter (λ lock. lock.write) bs))) ≡ true → list_any (λ o. meet a o) (b ∷ bs) ≡ true
    by_case true w rest g =
        elim (or_cases (same_key key b.key) _ g) [
          | inl t ↦ or_left _ _ (and_from _ _ (both_same a.key b.key key e t) (or_right a.write b.write w))
          | inr r ↦ or_right (meet a b) _ (rest r)
        ]
    by_case false w rest g = or_right (meet a b) _ (rest g)

-- lists of locks clash where the first writes a key of the second
pub clash-first : (one other : List Lock) (key : Key) → has_key key (lock_keys (filter (λ lock. lock.write) one)) ≡ true → has_key key (lock_keys other) ≡ true → clash one other ≡ true
clash-first [] other key h m = absurd (false≢true h)
clash-first (a ∷ rest) other key h m = by_case a.write refl (clash-first rest other key) h
  where
    by_case : (c : Bool) → a.write ≡ c → (has_key key (written_keys rest) ≡ true → has_key key (lock_keys other) ≡ true → clash rest other ≡ true)
        → has_key key (lock_keys (cond c (a ∷ filter (λ lock. lock.write) rest) (filter (λ lock. lock.write) rest))) ≡ true → clash (a ∷ rest) other ≡ true
    by_case true w more g =
        elim (or_cases (same_key key a.key) _ g) [
          | inl t ↦ or_left _ _ (meets_any a other key t w m)
          | inr r ↦ or_right (list_any (λ b. meet a b) other) _ (more r m)
        ]
    by_case false w more g = or_right (list_any (λ b. meet a b) other) _ (more g m)

-- and where the second writes a key of the first
pub clash-second : (one other : List Lock) (key : Key) → has_key key (lock_keys one) ≡ true → has_key key (lock_keys (filter (λ lock. lock.write) other)) ≡ true → clash one other ≡ true
clash-second [] other key h m = absurd (false≢true h)
clash-second (a ∷ rest) other key h m =
    elim (or_cases (same_key key a.key) _ h) [
      | inl t ↦ or_left _ _ (meets_written a other key t m)
      | inr r ↦ or_right (list_any (λ b. meet a b) other) _ (clash-second rest other key r m)
    ]
