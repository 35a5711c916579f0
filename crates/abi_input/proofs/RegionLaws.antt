-- What is taken back stands in the region.
use Rattle.std.proofs.Common.{◌≡◌, ◌<◌, ◌+◌, ℕ, List, length, map, take, drop, get_or, true, Some, None, Ok, refl, sym, ap, ◌∙◌, arith, length-drop}
use Rattle.std.specs.Prelude.{Option, cond, unwrap_or}
use Rattle.std.specs.List.{enumerate_from, find}
use Rattle.std.proofs.lemmas.List.{get_or-map, length-map, length-take-le, take_all}
use Rattle.std.proofs.lemmas.List.FromFn.{get_or-enumerate_from, length-enumerate_from}
use Rattle.std.proofs.lemmas.Option.{slice_get-get_or}
use Rattle.sol_base.specs.declared.account.Account.{Account}
use Rattle.sol_base.specs.declared.lock.Meta.{Meta}
use Rattle.sol_base.specs.Accounts.{empty_account}
use Rattle.sol_base.specs.Metas.{is_listed, first_listings, AreInRange}
use Rattle.abi_input.specs.Entries.{found_among, IsEntryOf}
use Rattle.abi_input.specs.Region.{account_at, account_back, account_in, back, data_len_at, first_entry_start, first_place, is_too_long, lamports_at, unless_found, IsRegionOf}
use Rattle.abi_input.proofs.Entries.{index_in}
use Rattle.abi_input.proofs.Finding.{found_all}
use Rattle.abi_input.proofs.Listed.{first_of_account}
use Rattle.abi_input.proofs.TakeLaws.{entry_holds}

-- the accounts that are taken back are those of their entries, and none of these is too long
record AreTaken (region : List ℕ) (start now taken : List Account) (metas : List Meta) : Type 0 where
  fits : found_among (is_too_long region start metas) metas (length metas) ≡ None
  accounts : map (account_back region start metas) (enumerate_from 0 now) ≡ taken

are_taken : (region : List ℕ) (start now taken : List Account) (metas : List Meta) → back region start now metas ≡ Ok taken → AreTaken region start now taken metas
unfolding back
are_taken region start now taken metas e = by_found (find (is_too_long region start metas) (first_listings metas)) refl e
  where
    by_found : (o : Option (ℕ × Meta)) → find (is_too_long region start metas) (first_listings metas) ≡ o
        → unless_found o (map (account_back region start metas) (enumerate_from 0 now)) ≡ Ok taken
        → AreTaken region start now taken metas
    by_found None none is = record { fits = found_all (is_too_long region start metas) metas ∙ none; accounts = cc }
    by_found (Some item) found is = absurd (cc)

-- one of them, by its place
taken_at : (f : ℕ × Account → Account) (now : List Account) (i : ℕ) → i < length now → account_in (map f (enumerate_from 0 now)) i ≡ f (i, account_in now i)
taken_at f now i lt =
    let items : List (ℕ × Account) = enumerate_from 0 now in
    let none : Account = empty_account in
    let long : i < length items = rw (length-enumerate_from 0 now) lt in
    let all : i < length (map f items) = rw (length-map items f) long in
    let zero_first : 0 + i ≡ i = omega arith in
    let here : account_in now i ≡ get_or now i none = ap (λ (o : Option Account). unwrap_or o none) (slice_get-get_or now i none lt) in
    ap (λ (o : Option Account). unwrap_or o none) (slice_get-get_or (map f items) i none all)
    ∙ get_or-map f items i (i, none) none long
    ∙ ap f (get_or-enumerate_from 0 now i (i, none) lt ∙ ap (λ (n : ℕ). (n, get_or now i none)) zero_first ∙ ap (λ (a : Account). (i, a)) (sym here))

module _ (region : List ℕ) (start now taken : List Account) (metas : List Meta)
    (count : length now ≡ length start) (range : AreInRange (length start) metas)
    (whole : IsRegionOf start metas region) (is_back : back region start now metas ≡ Ok taken) (i : ℕ)
    (listed : is_listed metas i ≡ true) where
  abbrev entry : ℕ
  entry = first_entry_start start metas i

  are : AreTaken region start now taken metas
  are = are_taken region start now taken metas is_back

  is_there : i < length now
  is_there =
      let first = first_of_account metas i listed in
      omega (arith, index_in (length start) metas (first_place metas i) first.0 range first.1.there, first.1.same, count)

  is_at : account_in taken i ≡ account_at region entry (account_in now i)
  is_at =
      ap (λ (l : List Account). account_in l i) (sym are.accounts) ∙ taken_at (account_back region start metas) now i is_there
      ∙ ap (λ b. cond b (account_at region entry (account_in now i)) (account_in now i)) listed

  pub lamports_stand : (account_in taken i).lamports ≡ lamports_at region entry
  unfolding account_at
  lamports_stand = ap (λ (a : Account). a.lamports) is_at

  holds : IsEntryOf region entry
  holds =
      let all : take (length metas) metas ≡ metas = take_all (length metas) metas (omega arith) in
      entry_holds region start metas i (Some entry) entry whole are.fits
      (sym (ap (λ (l : List Meta). cond (is_listed l i) (Some entry) None) all ∙ ap (λ b. cond b (Some entry) None) listed)) refl

  pub length_stands : length (account_in taken i).bytes ≡ data_len_at region entry
  unfolding account_at
  length_stands =
      ap (λ (a : Account). length a.bytes) is_at
      ∙ length-take-le (data_len_at region entry) (drop (entry + 88) region) (omega (arith, holds, length-drop (entry + 88) region))
