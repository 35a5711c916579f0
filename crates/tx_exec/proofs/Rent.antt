-- The first key whose rent is broken, found from a place on.
use Rattle.std.proofs.Common.{◌≡◌, ◌<◌, ◌≤◌, ◌+◌, ◌∷◌, ℕ, List, length, drop, get_or, true, false, Option, Some, None, refl, sym, ap, ◌∙◌, arith}
use Rattle.std.specs.List.{position_from, zip}
use Rattle.std.specs.declared.sync.Arc.{Arc}
use Rattle.std.specs.declared.alloc.Global.{Global}
use Rattle.std.specs.Arc.{arc_value}
use Rattle.std.proofs.lemmas.List.{drop_all, drop_more, get_or-map, length-map}
use Rattle.std.proofs.lemmas.Iterator.Adapters.{position_from-zero}
use Rattle.sol_base.specs.declared.account.Account.{Account}
use Rattle.sol_base.specs.declared.lock.Lock.{Lock}
use Rattle.sol_base.specs.Accounts.{accounts_of}
use Rattle.tx_exec.specs.Transaction.{is_broken, rent_broken}

-- the first of three lists side by side
abbrev pub first_from : ℕ → List Lock → List Account → List Account → Option ℕ
first_from i ls olds news = position_from is_broken i (zip (drop i ls) (zip (drop i olds) (drop i news)))

-- what is left of the values behind shares
dropped_shares : (shares : List (Arc Account Global)) (i : ℕ) (share : Arc Account Global) → i < length shares
    → share ≡ get_or shares i share
    → drop i (accounts_of shares) ≡ arc_value share ∷ drop (i + 1) (accounts_of shares)
dropped_shares shares i share h here =
    let count : length (accounts_of shares) ≡ length shares = length-map shares (λ (s : Arc Account Global). arc_value s) in
    let value : get_or (accounts_of shares) i (arc_value share)
    ≡ arc_value share = get_or-map (λ (s : Arc Account Global). arc_value s) shares i share
    (arc_value share) h ∙ ap (λ (s : Arc Account Global). arc_value s) (sym here) in
    drop_more (accounts_of shares) i (arc_value share) (omega (arith, count, h)) ∙ ap (λ (v : Account). v ∷ drop (i + 1) (accounts_of shares)) value

module _ (ls : List Lock) (olds news : List (Arc Account Global)) (i : ℕ) (l : Lock)
    (old new : Arc Account Global) (h : i < length ls) (j : i < length olds) (k : i < length news)
    (a : old ≡ get_or olds i old) (b : new ≡ get_or news i new) where
  pub broken-more : is_broken (get_or ls i l, (arc_value old, arc_value new)) ≡ false
      → first_from i ls (accounts_of olds) (accounts_of news)
      ≡ first_from (i + 1) ls (accounts_of olds) (accounts_of news)
  broken-more e = rw (drop_more ls i l h, dropped_shares olds i old j a, dropped_shares news i new k b, e) refl

  pub broken-found : is_broken (get_or ls i l, (arc_value old, arc_value new)) ≡ true → first_from i ls (accounts_of olds) (accounts_of news) ≡ Some i
  broken-found e = rw (drop_more ls i l h, dropped_shares olds i old j a, dropped_shares news i new k b, e) refl

pub broken-none : (ls : List Lock) (olds news : List Account) (i : ℕ) → length ls ≤ i → first_from i ls olds news ≡ None
broken-none ls olds news i h = rw (drop_all i ls h) refl

-- what is found from the beginning is the place
pub as_place : (ls : List Lock) (olds news : List Account) (o : Option ℕ) → first_from 0 ls olds news ≡ o → o ≡ rent_broken ls olds news
as_place ls olds news o h = sym (position_from-zero is_broken (zip ls (zip olds news)) ∙ h)
