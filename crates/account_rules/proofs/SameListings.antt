-- Lists of metas that list the same accounts in the same order, with the same rights of each account, are under the same account rules.
use Rattle.std.proofs.Common.{◌≡◌, ℕ, zero, suc, ◌+◌, ◌==◌, Bool, true, false, not, ◌||◌, List, [], ◌∷◌, length, map, take, get_or, refl, sym, ap, ◌∙◌, if◌then◌else◌}
use Rattle.std.specs.List.{enumerate_from, filter, list_any}
use Rattle.std.proofs.Math.ListN.{get_or-map}
use Rattle.std.proofs.lemmas.List.{length-map}
use Rattle.sol_base.specs.declared.key.Key.{Key}
use Rattle.sol_base.specs.declared.account.Account.{Account}
use Rattle.sol_base.specs.declared.lock.Meta.{Meta}
use Rattle.sol_base.specs.Accounts.{empty_account}
use Rattle.sol_base.specs.Metas.{is_first_listing, is_listed, is_listed_writable}
use Rattle.account_rules.specs.AccountRules.{Change, broken_rules, first_of, listed_change, listed_changes, listed_rules}
use Rattle.account_rules.specs.Listings.{SameListing, indexes}

-- ---- the changes that account rules speak of, by the indexes of the metas alone
is_first_index : List ℕ → ℕ × ℕ → Bool
is_first_index list (at, index) = not (list_any (λ one. one == index) (take at list))

change_at : (ℕ → Bool) → List Account → List Account → ℕ × ℕ → Change
change_at writable before after (at, index) = (at, (writable index, (get_or before index empty_account, get_or after index empty_account)))

changes_by : List ℕ → (ℕ → Bool) → List Account → List Account → List Change
changes_by list writable before after = map (change_at writable before after) (filter (is_first_index list) (enumerate_from 0 list))

any-taken : (at place : ℕ) (metas : List Meta) → is_listed (take at metas) place ≡ list_any (λ one. one == place) (take at (indexes metas))
any-taken zero place metas = refl
any-taken (suc at) place [] = refl
any-taken (suc at) place (meta ∷ metas) = ap (λ t. (meta.index == place) || t) (any-taken at place metas)

picked : {X Y : Type 0} (F : X → Change) (G : Y → Change) (s t : Bool) (x : X) (y : Y) (xs : List X)
    (ys : List Y) → s ≡ t → F x ≡ G y → map F xs ≡ map G ys
    → map F (if s then x ∷ xs else xs) ≡ map G (if t then y ∷ ys else ys)
picked F G true true x y xs ys same head tail = λ i. head i ∷ tail i
picked F G true false x y xs ys same head tail = absurd (cc)
picked F G false true x y xs ys same head tail = absurd (cc)
picked F G false false x y xs ys same head tail = tail

by_indexes : (P : ℕ × Meta → Bool) (Q : ℕ × ℕ → Bool) (F : ℕ × Meta → Change) (G : ℕ × ℕ → Change)
    → ((x : ℕ × Meta) → P x ≡ Q (x.0, x.1.index)) → ((x : ℕ × Meta) → F x ≡ G (x.0, x.1.index))
    → (n : ℕ) (metas : List Meta)
    → map F (filter P (enumerate_from n metas)) ≡ map G (filter Q (enumerate_from n (indexes metas)))
by_indexes P Q F G tests values n [] = refl
by_indexes P Q F G tests values n (meta ∷ metas) = picked F G (P (n, meta)) (Q (n, meta.index)) (n, meta)
    (n, meta.index) (filter P (enumerate_from (n + 1) metas))
    (filter Q (enumerate_from (n + 1) (indexes metas))) (tests (n, meta)) (values (n, meta))
    (by_indexes P Q F G tests values (n + 1) metas)

changes-indexes : (metas : List Meta) (before after : List Account) → listed_changes metas before after ≡ changes_by (indexes metas) (is_listed_writable metas) before after
unfolding changes_by change_at is_first_index
changes-indexes metas before after = by_indexes (is_first_listing metas) (is_first_index (indexes metas))
    (listed_change metas before after) (change_at (is_listed_writable metas) before after)
    (λ x. ap not (any-taken x.0 x.1.index metas)) (λ x. refl) 0 metas

-- ---- two lists of metas that say the same
module _ (some others : List Meta) (same : SameListing some others) where
  pub same_length : length some ≡ length others
  same_length = sym (length-map some (λ (meta : Meta). meta.index)) ∙ ap length same.order ∙ length-map others (λ (meta : Meta). meta.index)

  pub same_places : (none : Meta) (role : ℕ) → (get_or some role none).index ≡ (get_or others role none).index
  same_places none role = sym (get_or-map (λ (meta : Meta). meta.index) some role none)
      ∙ ap (λ (list : List ℕ). get_or list role none.index) same.order
      ∙ get_or-map (λ (meta : Meta). meta.index) others role none

  same_changes : (before after : List Account) → listed_changes some before after ≡ listed_changes others before after
  same_changes before after = changes-indexes some before after ∙ (λ i. changes_by (same.order i) (λ place. same.writable place i) before after) ∙ sym (changes-indexes others before after)

  pub same_rules : (program : Key) (before after : List Account) → listed_rules program some before after ≡ listed_rules program others before after
  unfolding listed_rules
  same_rules program before after = ap (λ (changes : List Change). first_of (broken_rules program changes)) (same_changes before after)
