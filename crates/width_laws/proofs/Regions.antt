-- The accounts of a frame as its region gives them back: their owners have 32 bytes each.
use Rattle.std.proofs.Common.{◌≡◌, ◌+◌, ◌≤◌, ◌-◌, ℕ, zero, suc, Bool, true, false, cond, List, [], ◌∷◌, ◌++◌, length, map, take, drop, get_or, Option, Some, None, Ok, refl, sym, ap, subst, ◌∙◌, arith, length-append, length-drop}
use Rattle.std.specs.Prelude.{find, replicate, slice_get}
use Rattle.std.specs.List.{enumerate_from, flat_map}
use Rattle.std.proofs.lemmas.Bool.{ltb-false}
use Rattle.std.proofs.lemmas.List.{length-replicate, length-take-le}
use Rattle.std.proofs.lemmas.Option.{slice_get-get_or}
use Rattle.sol_base.specs.declared.account.Account.{Account}
use Rattle.sol_base.specs.declared.lock.Meta.{Meta}
use Rattle.sol_base.specs.Keys.{IsKey}
use Rattle.sol_base.specs.Metas.{first_listings, is_first_listing, is_listed}
use Rattle.abi_input.specs.Region.{IsRegionOf, account_at, account_back, account_in, back, entry_size, entry_start, first_entry_start, first_place, first_size, is_outgrown, is_too_long, number_bytes, over_entry, patched, patched_entry, room_of, state_bytes, unless_found}
use Rattle.abi_input.specs.Entries.{found_among}
use Rattle.abi_input.specs.Widths.{HasWidths}
use Rattle.abi_input.proofs.Entries.{all_items, first_fits, flat_more, start_least, start_more, start_within, start_zero}
use Rattle.abi_input.proofs.Finding.{found_all, none_passes}
use Rattle.abi_input.proofs.Listed.{first_of_account}
use Rattle.width_laws.proofs.Owned.{AreOwned}

-- ---- what is taken back
owner_back : (region : List ℕ) (start : List Account) (metas : List Meta) (place : ℕ) (account : Account) → IsRegionOf start metas region → is_listed metas place ≡ true
    → IsKey (account_at region (first_entry_start start metas place) account).owner
unfolding account_at
owner_back region start metas place account whole listed =
    let found = first_of_account metas place listed in
    let fits = first_fits start metas (first_place metas place) found.0 (account_in start found.0.index) found.1.there found.1.first refl in
    let entry = first_entry_start start metas place in
    length-take-le 32 (drop (entry + 40) region) (omega (arith, fits, whole, length-drop (entry + 40) region))

all_back : (region : List ℕ) (start : List Account) (metas : List Meta) (n : ℕ) (now : List Account) → IsRegionOf start metas region → AreOwned now
    → AreOwned (map (account_back region start metas) (enumerate_from n now))
all_back region start metas n [] whole owned = tt
all_back region start metas n (a ∷ now) whole owned = (here (is_listed metas n) refl, all_back region start metas (n + 1) now whole owned.1)
  where
    here : (b : Bool) → is_listed metas n ≡ b → IsKey (cond b (account_at region (first_entry_start start metas n) a) a).owner
    here true listed = owner_back region start metas n a whole listed
    here false other = owned.0

unfound : {X : Type 0} (found : Option (ℕ × Meta)) (value x : X) → unless_found found value ≡ Ok x → (found ≡ None) × (value ≡ x)
unfound None value x h = (refl, cc)
unfound (Some item) value x h = absurd (cc)

pub back_owned : (region : List ℕ) (start now : List Account) (metas : List Meta) (after : List Account) → IsRegionOf start metas region → AreOwned now
    → back region start now metas ≡ Ok after → AreOwned after
unfolding back
back_owned region start now metas after whole owned h =
    subst AreOwned (unfound (find (is_too_long region start metas) (first_listings metas)) (map (account_back region start metas) (enumerate_from 0 now)) after h).1
    (all_back region start metas 0 now whole owned)

-- ---- a region that is patched is as long
state_length : (room : ℕ) (account : Account) → length account.bytes ≤ room → HasWidths account → length (state_bytes room account) ≡ 48 + room
unfolding state_bytes
state_length room account fits has =
    sized account.owner.0 (number_bytes account.lamports) (number_bytes (length account.bytes)) account.bytes (replicate (room - length account.bytes) 0) has.owner_is_key refl refl
    (length-replicate (room - length account.bytes) 0) fits
  where
    sized : (o l n b z : List ℕ) → length o ≡ 32 → length l ≡ 8 → length n ≡ 8 → length z ≡ room - length b → length b ≤ room → length ((((o ++ l) ++ n) ++ b) ++ z) ≡ 48 + room
    sized o l n b z eo el en ez le = omega (arith, length-append o l, length-append (o ++ l) n, length-append ((o ++ l) ++ n) b, length-append (((o ++ l) ++ n) ++ b) z)

-- where all entries have their sizes, so many bytes stand before each
module _ (start : List Account) (metas : List Meta) (entry : ℕ × Meta → List ℕ)
    (sized : (k : ℕ) (meta : Meta) → slice_get metas k ≡ Some meta → length (entry (k, meta)) ≡ entry_size start metas (k, meta)) where
  before_entry : (k : ℕ) → k ≤ length metas → 8 + length (flat_map entry (take k (enumerate_from 0 metas))) ≡ entry_start start metas k
  before_entry zero le = sym (start_zero start metas)
  before_entry (suc k) le =
      let d : Meta = record { index = 0; signer = false; writable = false } in
      let meta : Meta = get_or metas k d in
      let there : slice_get metas k ≡ Some meta = slice_get-get_or metas k d (omega (arith, le)) in
      let so_far = before_entry k (omega (arith, le)) in
      let more : length (flat_map entry (take (k + 1) (enumerate_from 0 metas))) ≡ length (flat_map entry (take k (enumerate_from 0 metas))) + length (entry (k, meta)) =
      ap length (flat_more entry metas k meta there) ∙ length-append (flat_map entry (take k (enumerate_from 0 metas))) (entry (k, meta)) in
      let next : suc k ≡ k + 1 = omega arith in
      let step : 8 + length (flat_map entry (take (k + 1) (enumerate_from 0 metas))) ≡ entry_start start metas (k + 1) =
      omega (arith, more, so_far, sized k meta there, start_more start metas k meta there) in
      subst (λ n. 8 + length (flat_map entry (take n (enumerate_from 0 metas))) ≡ entry_start start metas n) (sym next) step

  entries_length : 8 + length (flat_map entry (enumerate_from 0 metas)) ≡ entry_start start metas (length metas)
  entries_length = ap (λ (l : List (ℕ × Meta)). 8 + length (flat_map entry l)) (sym (all_items metas)) ∙ before_entry (length metas) (omega arith)

module _ (region : List ℕ) (start now : List Account) (metas : List Meta) (have : (k : ℕ) (meta : Meta) → slice_get metas k ≡ Some meta → HasWidths (account_in now meta.index))
    (whole : IsRegionOf start metas region) (none : found_among (is_outgrown start now) metas (length metas) ≡ None) where
  abbrev old : ℕ → Meta → List ℕ
  old k meta = take (entry_size start metas (k, meta)) (drop (entry_start start metas k) region)

  old_length : (k : ℕ) (meta : Meta) → slice_get metas k ≡ Some meta → length (old k meta) ≡ entry_size start metas (k, meta)
  old_length k meta e =
      let within = start_within start metas k meta e in
      length-take-le (entry_size start metas (k, meta)) (drop (entry_start start metas k) region) (omega (arith, within, whole, length-drop (entry_start start metas k) region))

  over_length : (b : Bool) (s n : Account) (entry : List ℕ) (size : ℕ) → length entry ≡ size → size ≡ cond b (first_size s) 8 → (b ≡ true → length n.bytes ≤ room_of s) → HasWidths n
      → length (cond b (over_entry s n entry) entry) ≡ size
  over_length true s n entry size long is fits has =
      let room : ℕ = room_of s in
      let state : List ℕ = state_bytes room n in
      let state_long : length state ≡ 48 + room = state_length room n (fits refl) has in
      let front : length (take 40 entry) ≡ 40 = length-take-le 40 entry (omega (arith, long, is)) in
      omega (arith, length-append (take 40 entry ++ state) (drop (40 + length state) entry), length-append (take 40 entry) state, length-drop (40 + length state) entry, front, state_long, long, is)
  over_length false s n entry size long is fits has = long

  over_sized : (k : ℕ) (meta : Meta) → slice_get metas k ≡ Some meta → length (patched_entry region start now metas (k, meta)) ≡ entry_size start metas (k, meta)
  over_sized k meta e =
      over_length (is_first_listing metas (k, meta)) (account_in start meta.index) (account_in now meta.index) (old k meta) (entry_size start metas (k, meta)) (old_length k meta e) refl
      (λ first. ltb-false (room_of (account_in start meta.index)) (length (account_in now meta.index).bytes) (none_passes (is_outgrown start now) metas k meta e none first)) (have k meta e)

  over_region : IsRegionOf start metas (take 8 region ++ flat_map (patched_entry region start now metas) (enumerate_from 0 metas) ++ drop (entry_start start metas (length metas)) region)
  over_region =
      let entries = flat_map (patched_entry region start now metas) (enumerate_from 0 metas) in
      let end = entry_start start metas (length metas) in
      let least = start_least start metas (length metas) in
      let eight : length (take 8 region) ≡ 8 = length-take-le 8 region (omega (arith, least, whole)) in
      let long = entries_length start metas (patched_entry region start now metas) over_sized in
      omega (arith, length-append (take 8 region ++ entries) (drop end region), length-append (take 8 region) entries, eight, long)

pub patched_region : (region after : List ℕ) (start now : List Account) (metas : List Meta) → ((k : ℕ) (meta : Meta) → slice_get metas k ≡ Some meta → HasWidths (account_in now meta.index))
    → IsRegionOf start metas region → patched region start now metas ≡ Ok after → IsRegionOf start metas after
unfolding patched
patched_region region after start now metas have whole h =
    let found = unfound (find (is_outgrown start now) (first_listings metas)) _ after h in
    subst (IsRegionOf start metas) found.1 (over_region region start now metas have whole (found_all (is_outgrown start now) metas ∙ found.0))
