-- The accounts where those of some keys are replaced by a list.
use Rattle.std.proofs.Common.{◌≡◌, ◌∷◌, [], ℕ, suc, Bool, true, false, cond, ◌||◌, List, length, map, Some, refl, sym, ap, ap₂, ◌∙◌, arith}
use Rattle.std.specs.Prelude.{option_map, slice_get}
use Rattle.std.proofs.lemmas.Option.{slice_get-map}
use Rattle.sol_base.specs.declared.key.Key.{Key}
use Rattle.sol_base.specs.declared.account.Account.{Account}
use Rattle.sol_base.specs.Keys.{has_key, same_key}
use Rattle.sol_base.proofs.KeyLaws.{same_key-self, same_key-true}
use Rattle.account_store.specs.State.{settled}
use Rattle.bank_law.specs.Job.{beside}
use Rattle.bank_law.proofs.Keys.{beside-map, map-same}
use Rattle.bank_law.proofs.Supply.{AreApart}
use Rattle.entry_laws.proofs.Steps.{other_key}
use Rattle.ownership_laws.specs.Steps.{Accounts}

-- the values beside these keys, and under all other keys the accounts
abbrev pub over : List Key → List Account → Accounts → Accounts
over ks vs f = λ key. cond (has_key key ks) (beside key ks vs) (f key)

pub over-map : (ks : List Key) (vs : List Account) (f : Accounts) → AreApart ks → length vs ≡ length ks → map (over ks vs f) ks ≡ vs
over-map [] [] f apart count = refl
over-map [] (v ∷ vs) f apart count = absurd (omega (arith, count))
over-map (k ∷ ks) [] f apart count = absurd (omega (arith, count))
over-map (k ∷ ks) (v ∷ vs) f apart count =
    let head : over (k ∷ ks) (v ∷ vs) f k ≡ v = ap (λ (t : Bool). cond (t || has_key k ks) (cond t v (beside k ks vs)) (f k)) (same_key-self k) in
    let tail : map (over (k ∷ ks) (v ∷ vs) f) ks ≡ map (over ks vs f) ks =
    map-same (over (k ∷ ks) (v ∷ vs) f) (over ks vs f) ks
    (λ key has. ap (λ (t : Bool). cond (t || has_key key ks) (cond t v (beside key ks vs)) (f key)) (other_key k key ks apart.0 has)) in
    ap₂ (λ (a : Account) (more : List Account). a ∷ more) head (tail ∙ over-map ks vs f apart.1 (omega (arith, count)))

-- replaced by those of other accounts that are the same elsewhere, they are these
pub over-same : (ks : List Key) (f g : Accounts) → ((key : Key) → has_key key ks ≡ false → g key ≡ f key) → over ks (map g ks) f ≡ g
over-same ks f g others = λ i key. by_case key (has_key key ks) refl i
  where
    by_case : (key : Key) (b : Bool) → has_key key ks ≡ b → cond b (beside key ks (map g ks)) (f key) ≡ g key
    by_case key true has = beside-map g key ks has
    by_case key false none = sym (others key none)

pub over-other : (ks : List Key) (vs : List Account) (f : Accounts) (key : Key) → has_key key ks ≡ false → over ks vs f key ≡ f key
over-other ks vs f key none = ap (λ (b : Bool). cond b (beside key ks vs) (f key)) none

pub beside-settled : (key : Key) (ks : List Key) (vs : List Account) → beside key ks (map settled vs) ≡ settled (beside key ks vs)
beside-settled key [] vs = refl
beside-settled key (k ∷ ks) [] = refl
beside-settled key (k ∷ ks) (v ∷ vs) = by_case (same_key key k) (beside-settled key ks vs)
  where
    by_case : (b : Bool) → beside key ks (map settled vs) ≡ settled (beside key ks vs) → cond b (settled v) (beside key ks (map settled vs)) ≡ settled (cond b v (beside key ks vs))
    by_case true rest = refl
    by_case false rest = rest

-- a key that is among others has a place there
pub record HasPlace (key : Key) (ks : List Key) : Type 0 where
  pub place : ℕ
  pub there : slice_get ks place ≡ Some key

pub place_of : (key : Key) (ks : List Key) → has_key key ks ≡ true → HasPlace key ks
place_of key [] has = absurd (cc)
place_of key (k ∷ ks) has = by_case (same_key key k) refl has (place_of key ks)
  where
    by_case : (b : Bool) → same_key key k ≡ b → (b || has_key key ks) ≡ true → (has_key key ks ≡ true → HasPlace key ks) → HasPlace key (k ∷ ks)
    by_case true e has rest = record { place = 0; there = ap (λ (q : Key). slice_get (q ∷ ks) 0) (sym (same_key-true key k e)) }
    by_case false e has rest = let found = rest has in record { place = suc found.place; there = found.there }

pub shown_at : (f : Accounts) (ks : List Key) (place : ℕ) (key : Key) → slice_get ks place ≡ Some key → slice_get (map f ks) place ≡ Some (f key)
shown_at f ks place key there = slice_get-map f ks place ∙ ap (option_map f) there
