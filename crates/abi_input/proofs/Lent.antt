-- The accounts that a region lends, found by the places of their data.
use Rattle.std.proofs.Common.{◌≡◌, ◌<◌, ◌≤◌, ◌+◌, ℕ, zero, suc, List, [], ◌∷◌, ◌++◌, length, take, drop, get_or, Bool, true, false, None, Some, slice_get, refl, sym, ap, ◌∙◌, subst, arith}
use Rattle.std.specs.Prelude.{Option, cond, nat_eq}
use Rattle.std.specs.Option.{option_or}
use Rattle.std.specs.List.{enumerate_from, find, flat_map}
use Rattle.std.proofs.lemmas.Bool.{cond-true, cond-false}
use Rattle.std.proofs.lemmas.Bool.Decides.{nat_tests}
use Rattle.std.proofs.lemmas.List.{drop_more, take-append-drop, take_all}
use Rattle.std.proofs.lemmas.List.Concat.{flat_map-append}
use Rattle.std.proofs.lemmas.List.Folds.{find-append}
use Rattle.std.proofs.lemmas.Option.{slice_get-get_or, slice_get_within}
use Rattle.sol_base.specs.declared.account.Account.{Account}
use Rattle.sol_base.specs.declared.lock.Meta.{Meta}
use Rattle.sol_base.specs.Metas.{is_first_listing, is_listed}
use Rattle.abi_input.specs.Entries.{entry_among, AreLent}
use Rattle.abi_input.specs.Region.{account_in, entry_size, entry_start, first_place, first_size, lent_entry, lent_in, lent_of}
use Rattle.abi_input.proofs.Entries.{flat_all, flat_more, item_at, item_within, start_more}
use Rattle.abi_input.proofs.Listed.{first_of_account, IsFirstOf}

-- what is lent for a first listing, as the code lends it
pub lent_first : (start now : List Account) (metas : List Meta) (k : ℕ) (meta : Meta) (entry : ℕ)
    (account : Account) → is_first_listing metas (k, meta) ≡ true → entry ≡ entry_start start metas k
    → account_in now meta.index ≡ account
    → lent_of (entry + 88) account ≡ lent_entry start now metas (k, meta)
lent_first start now metas k meta entry account first at same =
    ap (λ n. lent_of (n + 88) account) at ∙ ap (λ (a : Account). lent_of (entry_start start metas k + 88) a) (sym same)
    ∙ sym (cond-true (is_first_listing metas (k, meta)) (lent_of (entry_start start metas k + 88) (account_in now meta.index)) [] first)

pub lent_again : (start now : List Account) (metas : List Meta) (k : ℕ) (meta : Meta) → is_first_listing metas (k, meta) ≡ false → lent_entry start now metas (k, meta) ≡ []
lent_again start now metas k meta again = cond-false (is_first_listing metas (k, meta)) (lent_of (entry_start start metas k + 88) (account_in now meta.index)) [] again

-- what is lent for all metas
pub lent_whole : (start now : List Account) (metas : List Meta) (k : ℕ) → length metas ≤ k → flat_map (lent_entry start now metas) (take k (enumerate_from 0 metas)) ≡ lent_in start now metas
unfolding lent_in
lent_whole start now metas k past = flat_all (lent_entry start now metas) metas k past

begins_at : ℕ → ℕ × Account → Bool
begins_at place item = nat_eq item.0 place

-- an entry has bytes
has_size : (start : List Account) (metas : List Meta) (item : ℕ × Meta) → 0 < entry_size start metas item
has_size start metas item = by_case (is_first_listing metas item) (account_in start item.1.index)
  where
    by_case : (b : Bool) (account : Account) → 0 < cond b (first_size account) 8
    by_case true account = omega arith
    by_case false account = omega arith

-- the data of a meta begin before the entries that follow
none_of : (start now : List Account) (metas : List Meta) (item : ℕ × Meta) (place : ℕ) → entry_start start metas item.0 + 88 < place → find (begins_at place) (lent_entry start now metas item) ≡ None
unfolding begins_at
none_of start now metas item place before = by_case (is_first_listing metas item) (nat_eq (length (account_in now item.1.index).bytes) 0) (nat_eq (entry_start start metas item.0 + 88) place) refl
  where
    at : ℕ
    at = entry_start start metas item.0 + 88

    by_case : (first empty here : Bool) → nat_eq (entry_start start metas item.0 + 88) place ≡ here
        → find (begins_at place) (cond first
        (cond empty [] ((entry_start start metas item.0 + 88, account_in now item.1.index) ∷ [])) []) ≡ None
    by_case false empty here e = refl
    by_case true true here e = refl
    by_case true false false e = ap (λ b. cond b (Some (entry_start start metas item.0 + 88, account_in now item.1.index)) None) e
    by_case true false true e = absurd (grind (arith, nat_tests))

none_before : (start now : List Account) (metas : List Meta) (k place : ℕ) → k ≤ length metas
    → entry_start start metas k + 88 ≤ place
    → find (begins_at place) (flat_map (lent_entry start now metas) (take k (enumerate_from 0 metas))) ≡ None
none_before start now metas zero place within before = refl
none_before start now metas (suc k) place within before =
    let items : List (ℕ × Meta) = enumerate_from 0 metas in
    let one : ℕ × Meta → List (ℕ × Account) = lent_entry start now metas in
    let meta : Meta = get_or metas k (record { index = 0; signer = false; writable = false }) in
    let there : slice_get metas k ≡ Some meta = slice_get-get_or metas k (record { index = 0; signer = false; writable = false }) (omega arith) in
    let next : suc k ≡ k + 1 = omega arith in
    let more : entry_start start metas (k + 1) ≡ entry_start start metas k + entry_size start metas (k, meta) = start_more start metas k meta there in
    let size : 0 < entry_size start metas (k, meta) = has_size start metas (k, meta) in
    let same : entry_start start metas (suc k) ≡ entry_start start metas (k + 1) = ap (λ n. entry_start start metas n) next in
    ap (λ n. find (begins_at place) (flat_map one (take n items))) next
    ∙ ap (λ (l : List (ℕ × Account)). find (begins_at place) l) (flat_more one metas k meta there)
    ∙ find-append (begins_at place) (flat_map one (take k items)) (one (k, meta))
    ∙ ap (λ (o : Option (ℕ × Account)). option_or o (find (begins_at place) (one (k, meta)))) (none_before start now metas k place (omega arith) (omega arith))
    ∙ none_of start now metas (k, meta) place (omega arith)

-- the data of an account are lent from its entry
lent_found : (start now : List Account) (metas : List Meta) (k : ℕ) (meta : Meta)
    → slice_get metas k ≡ Some meta → is_first_listing metas (k, meta) ≡ true
    → AreLent (lent_in start now metas) (entry_start start metas k + 88) (account_in now meta.index)
unfolding lent_in begins_at
lent_found start now metas k meta e first some =
    let items : List (ℕ × Meta) = enumerate_from 0 metas in
    let one : ℕ × Meta → List (ℕ × Account) = lent_entry start now metas in
    let place : ℕ = entry_start start metas k + 88 in
    let account : Account = account_in now meta.index in
    let lt : k < length metas = slice_get_within metas k meta e in
    let rest : List (ℕ × Account) = flat_map one (drop (k + 1) items) in
    let whole : flat_map one items ≡ flat_map one (take k items) ++ (one (get_or items k (k, meta)) ++ rest) =
    ap (λ (l : List (ℕ × Meta)). flat_map one l) (sym (take-append-drop k items)) ∙ flat_map-append one (take k items) (drop k items)
    ∙ ap (λ (l : List (ℕ × Meta)). flat_map one (take k items) ++ flat_map one l) (drop_more items k (k, meta) (item_within metas k meta e)) in
    let here : one (get_or items k (k, meta)) ≡ (place, account) ∷ [] =
    ap one (item_at metas k meta e) ∙ sym (lent_first start now metas k meta (entry_start start metas k) account first refl refl)
    ∙ cond-false (nat_eq (length account.bytes) 0) [] ((place, account) ∷ []) (grind (arith, nat_tests)) in
    let self : nat_eq place place ≡ true = grind (arith, nat_tests) in
    ap (λ (l : List (ℕ × Account)). find (begins_at place) l) (whole ∙ ap (λ (l : List (ℕ × Account)). flat_map one (take k items) ++ (l ++ rest)) here)
    ∙ find-append (begins_at place) (flat_map one (take k items)) ((place, account) ∷ rest)
    ∙ ap (λ (o : Option (ℕ × Account)). option_or o (find (begins_at place) ((place, account) ∷ rest))) (none_before start now metas k place (omega arith) (omega arith))
    ∙ ap (λ b. cond b (Some (place, account)) (find (begins_at place) rest)) self

-- the data of an account that has an entry
pub lent_at_entry : (start now : List Account) (metas : List Meta) (lent : List (ℕ × Account)) (index : ℕ)
    (o : Option ℕ) (entry : ℕ) (account : Account) → lent ≡ lent_in start now metas
    → o ≡ entry_among start metas (length metas) index → o ≡ Some entry
    → account_in now index ≡ account → AreLent lent (entry + 88) account
lent_at_entry start now metas lent index o entry account is at has same = by_case (is_listed (take (length metas) metas) index) refl (sym at ∙ has)
  where
    all : take (length metas) metas ≡ metas
    all = take_all (length metas) metas (omega arith)

    found : (meta : Meta) → IsFirstOf metas index meta → entry_start start metas (first_place metas index) ≡ entry → AreLent lent (entry + 88) account
    found meta first here =
        subst (λ (n : ℕ). AreLent lent (n + 88) account) here
        (subst (λ (l : List (ℕ × Account)). AreLent l (entry_start start metas (first_place metas index) + 88) account) (sym is)
        (subst (λ (a : Account). AreLent (lent_in start now metas) (entry_start start metas (first_place metas index) + 88) a) (ap (λ n. account_in now n) first.same ∙ same)
        (lent_found start now metas (first_place metas index) meta first.there first.first)))

    by_case : (b : Bool) → is_listed (take (length metas) metas) index ≡ b → cond b (Some (entry_start start metas (first_place metas index))) None ≡ Some entry → AreLent lent (entry + 88) account
    by_case true listed here =
        let first : (meta : Meta) × IsFirstOf metas index meta = first_of_account metas index (ap (λ (l : List Meta). is_listed l index) (sym all) ∙ listed) in
        let place : entry_start start metas (first_place metas index) ≡ entry = (cc) in
        found first.0 first.1 place
    by_case false none here = absurd (cc)
