-- Accounts as they stand in their entries, as the code finds them.
use Rattle.std.proofs.Common.{◌≡◌, ◌≢◌, ◌<◌, ◌≤◌, ◌+◌, ℕ, zero, suc, List, [], ◌∷◌, ◌++◌, length, map, take, drop, get_or, set, replicate, Bool, true, false, ◌||◌, Some, None, Result, Ok, Err, slice_get, refl, sym, ap, ◌∙◌, subst, inl, inr, arith}
use Rattle.std.specs.Prelude.{Option, cond, nat_eq, nat_lt}
use Rattle.std.specs.Option.{option_or}
use Rattle.std.specs.List.{enumerate_from, slice_index_or}
use Rattle.std.specs.Arc.{arc_value}
use Rattle.std.specs.declared.sync.Arc.{Arc}
use Rattle.std.specs.declared.alloc.Global.{Global}
use Rattle.std.proofs.lemmas.Bool.{ltb-false, cases_lt}
use Rattle.std.proofs.lemmas.Bool.Decides.{nat_tests}
use Rattle.std.proofs.lemmas.List.{map-append, map_more, take_all, get_or-set_same, get_or-set_other, get_or-map, length-append, length-map}
use Rattle.std.proofs.Math.ListN.{get_or-append}
use Rattle.std.proofs.Math.Seq.{get_or-append_seam}
use Rattle.std.proofs.lemmas.List.Folds.{list_any_more}
use Rattle.std.proofs.lemmas.List.FromFn.{get_or-enumerate_from, length-enumerate_from}
use Rattle.std.proofs.lemmas.Option.{same_Some, slice_get-get_or, slice_get_within, get_or_from_slice_get}
use Rattle.std.proofs.Math.Bool.{or-false}
use Rattle.spec_base.specs.Bytes.{number_from}
use Rattle.sol_base.specs.declared.key.Key.{Key}
use Rattle.sol_base.specs.declared.account.Account.{Account}
use Rattle.sol_base.specs.declared.lock.Meta.{Meta}
use Rattle.sol_base.specs.Accounts.{accounts_of, max_data_len, SameUnlessTouched}
use Rattle.sol_base.specs.Metas.{is_listed}
use Rattle.abi_input.specs.declared.fault.BackFault.{BackFault}
use Rattle.abi_input.specs.declared.fault.BackFault.TheVariants.{LengthTooLarge, OutOfMemory}
use Rattle.abi_input.specs.Region.{account_at, account_back, account_in, back, data_len_at, entry_start, first_place, first_size, has_outgrown, is_too_long, room_of, unless_found, IsRegionOf}
use Rattle.abi_input.specs.Entries.{account_by, entry_among, found_among, AreEntries, IsEntryOf}
use Rattle.abi_input.specs.Answers.{DifferWhereTouched, IsPlaceOf, RefusesBack, TakesBack}
use Rattle.abi_input.proofs.Listed.{first_of_account, place_at_first, IsFirstOf}
use Rattle.abi_input.proofs.Entries.{first_fits}
use Rattle.abi_input.proofs.Finding.{found_all, none_passes, refused_back}

made : Account → ℕ → Key → List ℕ → Account
made account lamports owner bytes = record account { lamports = lamports; owner = owner; bytes = bytes }

-- an account with what was read of its entry
pub account_is : (region : List ℕ) (entry : ℕ) (account : Account) (lamports len : ℕ) (owner : Key)
    (bytes : List ℕ) → lamports ≡ number_from region (entry + 72) → owner.0 ≡ take 32 (drop (entry + 40) region)
    → len ≡ data_len_at region entry → bytes ≡ take len (drop (entry + 88) region)
    → record account { lamports = lamports; owner = owner; bytes = bytes } ≡ account_at region entry account
unfolding made account_at
account_is region entry account lamports len owner bytes is_lamports is_owner is_len is_bytes =
    ap (λ n. made account n owner bytes) is_lamports ∙ ap (λ (l : List ℕ). made account (number_from region (entry + 72)) (record { 0 = l }) bytes) is_owner
    ∙ ap (λ (l : List ℕ). made account (number_from region (entry + 72)) (record { 0 = take 32 (drop (entry + 40) region) }) l) (is_bytes ∙ ap (λ n. take n (drop (entry + 88) region)) is_len)

-- no account has an entry at first
pub fresh_entries : (n index : ℕ) → slice_index_or (replicate n (let none : Option ℕ = None in none)) index None ≡ None
fresh_entries zero index = refl
fresh_entries (suc n) zero = refl
fresh_entries (suc n) (suc index) = fresh_entries n index

-- the entries after one meta more
pub entered_more : (start : List Account) (metas : List Meta) (k : ℕ) (meta : Meta) (entries : List (Option ℕ))
    (i entry : ℕ) (d new : Option ℕ) → slice_get metas k ≡ Some meta → i ≡ meta.index → i < length entries
    → new ≡ option_or (get_or entries i d) (Some entry) → entry ≡ entry_start start metas k
    → AreEntries start metas k entries → AreEntries start metas (k + 1) (set entries i new)
entered_more start metas k meta entries i entry d new e is below new_is at seen index =
    let lt : k < length metas = slice_get_within metas k meta e in
    let there : get_or metas k meta ≡ meta = get_or_from_slice_get metas k meta meta e in
    let more : is_listed (take (k + 1) metas) index ≡ (is_listed (take k metas) index || nat_eq meta.index index) =
    list_any_more (λ (m : Meta). nat_eq m.index index) metas k meta lt ∙ ap (λ (m : Meta). is_listed (take k metas) index || nat_eq m.index index) there in
    by_case (nat_eq meta.index index) refl ∙ ap (λ b. cond b (Some (entry_start start metas (first_place metas index))) None) (sym more)
  where
    listed_now : (b : Bool) → is_listed (take k metas) meta.index ≡ b
        → option_or (cond b (Some (entry_start start metas (first_place metas meta.index))) None) (Some entry)
        ≡ cond (b || true) (Some (entry_start start metas (first_place metas meta.index))) None
    listed_now true listed = refl
    listed_now false none = ap Some (at ∙ ap (λ n. entry_start start metas n) (sym (place_at_first metas k meta e none)))

    by_case : (b : Bool) → nat_eq meta.index index ≡ b
        → slice_index_or (set entries i new) index None
        ≡ cond (is_listed (take k metas) index || b) (Some (entry_start start metas (first_place metas index)))
        None
    by_case true same =
        let at_index : meta.index ≡ index = grind (arith, nat_tests) in
        let here : i ≡ index = is ∙ at_index in
        let one : slice_get entries i ≡ Some (get_or entries i d) = slice_get-get_or entries i d below in
        let other : slice_get entries i ≡ Some (get_or entries i None) = slice_get-get_or entries i None below in
        let same_read : get_or entries i d ≡ get_or entries i None = (cc) in
        let old : get_or entries i None ≡ entry_among start metas k meta.index = seen i ∙ ap (λ n. entry_among start metas k n) is in
        ap (λ n. get_or (set entries i new) n None) (sym here) ∙ get_or-set_same entries i new None below ∙ new_is ∙ ap (λ (o : Option ℕ). option_or o (Some entry)) (same_read ∙ old)
        ∙ listed_now (is_listed (take k metas) meta.index) refl ∙ ap (λ n. cond (is_listed (take k metas) n || true) (Some (entry_start start metas (first_place metas n))) None) at_index
    by_case false other =
        let apart : index ≢ i = λ same. absurd (grind (arith, nat_tests)) in
        get_or-set_other entries i index new None apart ∙ seen index
        ∙ ap (λ b. cond b (Some (entry_start start metas (first_place metas index))) None)
        (sym (or-false (is_listed (take k metas) index)))

-- an account that is listed has its entry in the region, with all data that it says it has
pub entry_holds : (region : List ℕ) (start : List Account) (metas : List Meta) (index : ℕ) (o : Option ℕ)
    (entry : ℕ) → IsRegionOf start metas region
    → found_among (is_too_long region start metas) metas (length metas) ≡ None
    → o ≡ entry_among start metas (length metas) index → o ≡ Some entry → IsEntryOf region entry
entry_holds region start metas index o entry whole fits is has = by_case (is_listed (take (length metas) metas) index) refl (sym is ∙ has)
  where
    all : take (length metas) metas ≡ metas
    all = take_all (length metas) metas (omega arith)

    holds : (meta : Meta) → IsFirstOf metas index meta → entry_start start metas (first_place metas index) ≡ entry → IsEntryOf region entry
    holds meta first at =
        let k : ℕ = first_place metas index in
        let short : is_too_long region start metas (k, meta) ≡ false = none_passes (is_too_long region start metas) metas k meta first.there fits first.first in
        let len : data_len_at region (entry_start start metas k) ≤ room_of (account_in start meta.index) =
        ltb-false (room_of (account_in start meta.index)) (data_len_at region (entry_start start metas k))
        (left (has_outgrown (account_in start meta.index) (data_len_at region (entry_start start metas k)))
        (nat_lt max_data_len (data_len_at region (entry_start start metas k))) short) in
        let within : entry_start start metas k + first_size (account_in start meta.index) ≤ entry_start start
        metas (length metas) = first_fits start metas k meta (account_in start meta.index) first.there
        first.first refl in
        subst (λ (n : ℕ). IsEntryOf region n) at (omega arith)
      where
        left : (a b : Bool) → (a || b) ≡ false → a ≡ false
        left true b e = absurd (cc)
        left false b e = refl

    by_case : (b : Bool) → is_listed (take (length metas) metas) index ≡ b → cond b (Some (entry_start start metas (first_place metas index))) None ≡ Some entry → IsEntryOf region entry
    by_case true listed same =
        let first : (meta : Meta) × IsFirstOf metas index meta = first_of_account metas index (ap (λ (l : List Meta). is_listed l index) (sym all) ∙ listed) in
        let at : entry_start start metas (first_place metas index) ≡ entry = (cc) in
        holds first.0 first.1 at
    by_case false none same = absurd (cc)

-- an account as it stands in its entry is that of the definition
pub account_by_is : (region : List ℕ) (start : List Account) (metas : List Meta) (index : ℕ) (o : Option ℕ)
    (account : Account) → o ≡ entry_among start metas (length metas) index
    → account_by region o account ≡ account_back region start metas (index, account)
account_by_is region start metas index o account is =
    ap (λ (p : Option ℕ). account_by region p account)
    (is ∙ ap (λ (l : List Meta). cond (is_listed l index)
    (Some (entry_start start metas (first_place metas index))) None)
    (take_all (length metas) metas (omega arith)))
    ∙ by_case (is_listed metas index)
  where
    by_case : (b : Bool) → account_by region
        (cond b (Some (entry_start start metas (first_place metas index))) None) account
        ≡ cond b (account_at region (entry_start start metas (first_place metas index)) account) account
    by_case true = refl
    by_case false = refl

-- one account more is taken back
pub taken_more : (f : ℕ × Account → Account) (now shares : List (Arc Account Global)) (k : ℕ)
    (x t : Arc Account Global) → k < length now → x ≡ get_or now k x → arc_value t ≡ f (k, arc_value x)
    → accounts_of shares ≡ map f (take k (enumerate_from 0 (accounts_of now)))
    → accounts_of (shares ++ t ∷ []) ≡ map f (take (k + 1) (enumerate_from 0 (accounts_of now)))
taken_more f now shares k x t lt there is so_far =
    let items : List (ℕ × Account) = enumerate_from 0 (accounts_of now) in
    let d : Account = arc_value x in
    let long : k < length (accounts_of now) = rw length_map lt in
    let at : get_or (accounts_of now) k d
    ≡ arc_value x = get_or-map (λ (share : Arc Account Global). arc_value share) now k x d lt
    ∙ ap (λ (share : Arc Account Global). arc_value share) (sym there) in
    let zero_first : 0 + k ≡ k = omega arith in
    let item : get_or items k (k, d)
    ≡ (k, arc_value x) = get_or-enumerate_from 0 (accounts_of now) k (k, d) long
    ∙ ap (λ (n : ℕ). (n, get_or (accounts_of now) k d)) zero_first ∙ ap (λ (a : Account). (k, a)) at in
    map-append (λ (share : Arc Account Global). arc_value share) shares (t ∷ []) ∙ ap (λ (l : List Account). l ++ arc_value t ∷ []) so_far
    ∙ ap (λ (a : Account). map f (take k items) ++ a ∷ []) (is ∙ ap f (sym item)) ∙ sym (map_more f items k (k, d) (rw length-enumerate_from long))
  where
    length_map : length (accounts_of now) ≡ length now
    length_map = length-map now (λ (share : Arc Account Global). arc_value share)

-- one item more, behind others
appended_before : {X : Type 0} (xs : List X) (x : X) (i : ℕ) → i < length xs → slice_get (xs ++ x ∷ []) i ≡ slice_get xs i
appended_before xs x i below = slice_get-get_or (xs ++ x ∷ []) i x (simp length-append (omega arith)) ∙ ap Some (get_or-append xs (x ∷ []) x i below) ∙ sym (slice_get-get_or xs i x below)

appended_last : {X : Type 0} (xs : List X) (x : X) → slice_get (xs ++ x ∷ []) (length xs) ≡ Some x
appended_last xs x = slice_get-get_or (xs ++ x ∷ []) (length xs) x (rw (length-append xs (x ∷ [])) (omega arith)) ∙ ap Some (get_or-append_seam xs x [] x)

-- one flag more
pub untouched_more : (touched : List Bool) (t : Bool) (before after : List Account) (k : ℕ) (a : Account)
    → length touched ≡ k → length after ≡ k → (t ≡ false → slice_get before k ≡ Some a)
    → SameUnlessTouched touched before after → SameUnlessTouched (touched ++ t ∷ []) before (after ++ a ∷ [])
untouched_more touched t before after k a flags long same so_far i e = elim (cases_lt i k) [ inl below ↦ earlier below | inr past ↦ later past ]
  where
    earlier : i < k → slice_get (after ++ a ∷ []) i ≡ slice_get before i
    earlier below = appended_before after a i (omega arith) ∙ so_far i (sym (appended_before touched t i (omega arith)) ∙ e)

    later : k ≤ i → slice_get (after ++ a ∷ []) i ≡ slice_get before i
    later past =
        let within : i < length (touched ++ t ∷ []) = slice_get_within (touched ++ t ∷ []) i false e in
        let total : length (touched ++ t ∷ []) ≡ length touched + 1 = length-append touched (t ∷ []) in
        let here : i ≡ length touched = omega arith in
        let there : i ≡ length after = omega arith in
        let unset : t ≡ false = same_Some t false (sym (appended_last touched t) ∙ ap (λ n. slice_get (touched ++ t ∷ []) n) (sym here) ∙ e) in
        ap (λ n. slice_get (after ++ a ∷ []) n) there ∙ appended_last after a ∙ sym (same unset) ∙ ap (λ n. slice_get before n) (sym (here ∙ flags))

pub touched_more : (touched : List Bool) (t : Bool) (before after : List Account) (k : ℕ) (a : Account)
    → length touched ≡ k → length after ≡ k → (t ≡ true → ¬ (Some a ≡ slice_get before k))
    → DifferWhereTouched touched before after → DifferWhereTouched (touched ++ t ∷ []) before (after ++ a ∷ [])
touched_more touched t before after k a flags long differs so_far i e = λ same. elim (cases_lt i k) [ inl below ↦ earlier same below | inr past ↦ later same past ]
  where
    earlier : slice_get (after ++ a ∷ []) i ≡ slice_get before i → i < k → ⊥
    earlier same below = so_far i (sym (appended_before touched t i (omega arith)) ∙ e) (sym (appended_before after a i (omega arith)) ∙ same)

    later : slice_get (after ++ a ∷ []) i ≡ slice_get before i → k ≤ i → ⊥
    later same past =
        let within : i < length (touched ++ t ∷ []) = slice_get_within (touched ++ t ∷ []) i true e in
        let total : length (touched ++ t ∷ []) ≡ length touched + 1 = length-append touched (t ∷ []) in
        let here : i ≡ length touched = omega arith in
        let there : i ≡ length after = omega arith in
        let set : t ≡ true = same_Some t true (sym (appended_last touched t) ∙ ap (λ n. slice_get (touched ++ t ∷ []) n) (sym here) ∙ e) in
        differs set (sym (appended_last after a) ∙ ap (λ n. slice_get (after ++ a ∷ []) n) (sym there) ∙ same ∙ ap (λ n. slice_get before n) (here ∙ flags))

-- all accounts are taken back
pub back_is : (region : List ℕ) (start now : List Account) (metas : List Meta) (accounts : List Account)
    → found_among (is_too_long region start metas) metas (length metas) ≡ None
    → accounts ≡ map (account_back region start metas) (enumerate_from 0 now)
    → back region start now metas ≡ Ok accounts
unfolding back
back_is region start now metas accounts fits is =
    ap (λ (o : Option (ℕ × Meta)). unless_found o (map (account_back region start metas) (enumerate_from 0 now))) (sym (found_all (is_too_long region start metas) metas) ∙ fits)
    ∙ ap (λ (l : List Account). let r : Result (List Account) ℕ = Ok l in r) (sym is)

back_refused : (region : List ℕ) (start now : List Account) (metas : List Meta) (i : ℕ)
    → IsPlaceOf (found_among (is_too_long region start metas) metas (length metas)) i
    → back region start now metas ≡ Err i
unfolding back
back_refused region start now metas i h =
    ap (λ (o : Option (ℕ × Meta)). unless_found o (map (account_back region start metas) (enumerate_from 0 now))) (sym (found_all (is_too_long region start metas) metas))
    ∙ refused_back (found_among (is_too_long region start metas) metas (length metas)) i (map (account_back region start metas) (enumerate_from 0 now)) h

refused : (region : List ℕ) (start now : List Account) (metas : List Meta) (fault : BackFault)
    → RefusesBack (found_among (is_too_long region start metas) metas (length metas)) fault
    → TakesBack (back region start now metas) (Err fault)
refused region start now metas (LengthTooLarge i) h = back_refused region start now metas i h
refused region start now metas OutOfMemory h = tt

-- the accounts of a region are those of what it was laid out from
pub same_back : (region laid_region : List ℕ) (start laid_start now : List Account)
    (metas laid_metas : List Meta) → laid_region ≡ region → laid_start ≡ start → laid_metas ≡ metas
    → back laid_region laid_start now laid_metas ≡ back region start now metas
same_back region laid_region start laid_start now metas laid_metas same_region same_start same_metas =
    ap (λ (r : List ℕ). back r laid_start now laid_metas) same_region ∙ ap (λ (s : List Account). back region s now laid_metas) same_start ∙ ap (λ (m : List Meta). back region start now m) same_metas

pub take_back_refused : (region laid_region : List ℕ) (start laid_start now : List Account)
    (metas laid_metas : List Meta) (fault : BackFault) → laid_region ≡ region → laid_start ≡ start
    → laid_metas ≡ metas
    → RefusesBack (found_among (is_too_long laid_region laid_start laid_metas) laid_metas (length laid_metas)) fault → TakesBack (back region start now metas) (Err fault)
take_back_refused region laid_region start laid_start now metas laid_metas fault same_region same_start same_metas h =
    subst (λ (wanted : Result (List Account) ℕ). TakesBack wanted (Err fault)) (same_back region laid_region start laid_start now metas laid_metas same_region same_start same_metas)
    (refused laid_region laid_start now laid_metas fault h)

-- a share among others, as a value
pub shared_at : (now : List (Arc Account Global)) (k : ℕ) (x : Arc Account Global) → k < length now → x ≡ get_or now k x → slice_get (accounts_of now) k ≡ Some (arc_value x)
shared_at now k x lt there =
    let long : k < length (accounts_of now) = rw length_map lt in
    slice_get-get_or (accounts_of now) k (arc_value x) long
    ∙ ap Some (get_or-map (λ (share : Arc Account Global). arc_value share) now k x (arc_value x) lt
    ∙ ap (λ (share : Arc Account Global). arc_value share) (sym there))
  where
    length_map : length (accounts_of now) ≡ length now
    length_map = length-map now (λ (share : Arc Account Global). arc_value share)

pub all_taken : (f : ℕ × Account → Account) (now : List (Arc Account Global)) (k : ℕ) → length now ≤ k
    → map f (take k (enumerate_from 0 (accounts_of now))) ≡ map f (enumerate_from 0 (accounts_of now))
all_taken f now k past =
    let long : length (enumerate_from 0 (accounts_of now)) ≡ length now = length-enumerate_from 0 (accounts_of now) ∙ length-map now (λ (share : Arc Account Global). arc_value share) in
    ap (λ (l : List (ℕ × Account)). map f l) (take_all k (enumerate_from 0 (accounts_of now)) (omega arith))

pub pushed : (shares new : List (Arc Account Global)) (t : Arc Account Global) → new ≡ shares ++ t ∷ [] → accounts_of new ≡ accounts_of shares ++ arc_value t ∷ []
pushed shares new t e = ap (λ (l : List (Arc Account Global)). accounts_of l) e ∙ map-append (λ (share : Arc Account Global). arc_value share) shares (t ∷ [])

-- an account that stands in its entry as it is
pub same_account : (region : List ℕ) (entry : ℕ) (account : Account)
    → number_from region (entry + 72) ≡ account.lamports → take 32 (drop (entry + 40) region) ≡ account.owner.0
    → data_len_at region entry ≡ length account.bytes
    → take (length account.bytes) (drop (entry + 88) region) ≡ account.bytes → account_at region entry account ≡ account
same_account region entry account is_lamports is_owner is_len is_bytes =
    sym (account_is region entry account account.lamports (length account.bytes) account.owner account.bytes (sym is_lamports) (sym is_owner) (sym is_len) (sym is_bytes))
