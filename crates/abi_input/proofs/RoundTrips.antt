-- A region that was laid out has each account where it is taken back.
use Rattle.std.proofs.Common.{◌≡◌, ◌<◌, ◌≤◌, ◌+◌, ◌-◌, ◌^◌, ℕ, zero, suc, List, [], ◌∷◌, ◌++◌, length, map, take, drop, get_or, replicate, Bool, true, false, ◌&&◌, ◌||◌, Some, None, slice_get, Result, Ok, Err, refl, sym, ap, ◌∙◌, subst, arith, append_assoc, length-append}
use Rattle.std.specs.Prelude.{Option, cond, nat_lt, unwrap_or}
use Rattle.std.specs.Int.{w64, from_le_bytes, from_bool}
use Rattle.std.specs.List.{enumerate_from, find, flat_map}
use Rattle.std.proofs.lemmas.Bool.Decides.{nat_tests}
use Rattle.std.proofs.lemmas.List.{take-append-drop, take_at, drop_at, length-replicate, length-take-le, length-drop}
use Rattle.std.proofs.lemmas.Bool.{ltb-false}
use Rattle.std.proofs.lemmas.List.Elements.{All-get_or}
use Rattle.std.proofs.lemmas.List.Concat.{flat_map-append}
use Rattle.std.proofs.lemmas.Nat.{from_le_bytes-to_le_bytes_8}
use Rattle.std.proofs.lemmas.Option.{slice_get-get_or, slice_get_within}
use Rattle.spec_base.specs.Bytes.{number_from}
use Rattle.sol_base.specs.declared.key.Key.{Key}
use Rattle.sol_base.specs.declared.account.Account.{Account}
use Rattle.sol_base.specs.declared.lock.Meta.{Meta}
use Rattle.sol_base.specs.Keys.{IsKey}
use Rattle.sol_base.specs.Accounts.{empty_account, max_data_len}
use Rattle.sol_base.specs.Metas.{is_listed, is_first_listing, is_listed_signer, is_listed_writable, AreInRange, first_listings}
use Rattle.abi_input.specs.Entries.{found_among}
use Rattle.abi_input.specs.Region.{account_at, account_back, account_in, back, data_len_at, entry_of, entry_size, entry_start, first_entry, first_place, first_size, has_outgrown, input_of, is_outgrown, is_too_long, key_in, not_listed_before, number_bytes, over_entry, padding, patched, patched_entry, repeated_entry, room_of, state_bytes, unless_found, IsRegionOf}
use Rattle.abi_input.specs.Widths.{AreKeys, HasWidths, HaveWidths}
use Rattle.abi_input.proofs.Entries.{flat_more, all_items, start_zero, start_more, start_within, start_least, key_there, index_in}
use Rattle.abi_input.proofs.Finding.{none_more, none_passes, found_all}
use Rattle.abi_input.proofs.Listed.{IsFirstOf, first_of_account}
use Rattle.abi_input.proofs.TakeLaws.{back_is, same_account}

-- a part that stands behind another
standing : (all front part behind : List ℕ) (n m : ℕ) → all ≡ front ++ (part ++ behind) → length front ≡ n → length part ≡ m → take m (drop n all) ≡ part
standing all front part behind n m e at long =
    ap (λ (l : List ℕ). take m (drop n l)) e ∙ ap (λ (l : List ℕ). take m l) (drop_at front (part ++ behind) n at) ∙ take_at part behind m long

-- a part behind two others is a part behind both together
further : (all front part behind : List ℕ) → all ≡ front ++ (part ++ behind) → all ≡ (front ++ part) ++ behind
further all front part behind e = e ∙ sym (append_assoc front part behind)

-- an account with its widths in the first of its entries, behind other bytes
pub record Stands (all : List ℕ) (at : ℕ) (account : Account) : Type 0 where
  pub owner : take 32 (drop (at + 40) all) ≡ account.owner.0
  pub lamports : number_from all (at + 72) ≡ account.lamports
  pub len : data_len_at all at ≡ length account.bytes
  pub bytes : take (length account.bytes) (drop (at + 88) all) ≡ account.bytes

-- the parts of a state, one after another
regroup : (o l n b z rest : List ℕ) → ((((o ++ l) ++ n) ++ b) ++ z) ++ rest ≡ o ++ (l ++ (n ++ (b ++ (z ++ rest))))
regroup o l n b z rest = simp append_assoc refl

number_again : (all front behind : List ℕ) (n at : ℕ) → all ≡ front ++ (number_bytes n ++ behind) → length front ≡ at → n < 2 ^ 64 → number_from all at ≡ n
number_again all front behind n at e long fits = ap (from_le_bytes w64) (standing all front (number_bytes n) behind at 8 e long refl) ∙ from_le_bytes-to_le_bytes_8 n fits

stands : (all front head behind : List ℕ) (at room : ℕ) (account : Account)
    → all ≡ front ++ (head ++ (state_bytes room account ++ behind)) → length front ≡ at → length head ≡ 40
    → HasWidths account → Stands all at account
unfolding state_bytes
stands all front head behind at room account e long forty has =
    let o : List ℕ = account.owner.0 in
    let l : List ℕ = number_bytes account.lamports in
    let n : List ℕ = number_bytes (length account.bytes) in
    let b : List ℕ = account.bytes in
    let z : List ℕ = replicate (room - length account.bytes) 0 in
    let after : List ℕ = z ++ behind in
    let parts : all ≡ front ++ (head ++ (o ++ (l ++ (n ++ (b ++ after))))) = e ∙ ap (λ (x : List ℕ). front ++ (head ++ x)) (regroup o l n b z behind) in
    let one : all ≡ (front ++ head) ++ (o ++ (l ++ (n ++ (b ++ after)))) = further all front head (o ++ (l ++ (n ++ (b ++ after)))) parts in
    let two : all ≡ ((front ++ head) ++ o) ++ (l ++ (n ++ (b ++ after))) = further all (front ++ head) o (l ++ (n ++ (b ++ after))) one in
    let three : all ≡ (((front ++ head) ++ o) ++ l) ++ (n ++ (b ++ after)) = further all ((front ++ head) ++ o) l (n ++ (b ++ after)) two in
    let four : all ≡ ((((front ++ head) ++ o) ++ l) ++ n) ++ (b ++ after) = further all (((front ++ head) ++ o) ++ l) n (b ++ after) three in
    let at_one : length (front ++ head) ≡ at + 40 = omega (arith, length-append front head, forty, long) in
    let at_two : length ((front ++ head) ++ o) ≡ at + 72 = omega (arith, length-append (front ++ head) o, at_one, has.owner_is_key) in
    let at_three : length (((front ++ head) ++ o) ++ l) ≡ at + 80 = length-append ((front ++ head) ++ o) l ∙ ap (λ (m : ℕ). m + 8) at_two ∙ omega arith in
    let at_four : length ((((front ++ head) ++ o) ++ l) ++ n) ≡ at + 88 = length-append (((front ++ head) ++ o) ++ l) n ∙ ap (λ (m : ℕ). m + 8) at_three ∙ omega arith in
    let short : length account.bytes < 2 ^ 64 = omega (arith, has.is_short) in
    record {
      owner = standing all (front ++ head) o (l ++ (n ++ (b ++ after))) (at + 40) 32 one at_one has.owner_is_key;
      lamports = number_again all ((front ++ head) ++ o) (n ++ (b ++ after)) account.lamports (at + 72) two at_two has.lamports_fit;
      len = number_again all (((front ++ head) ++ o) ++ l) (b ++ after) (length account.bytes) (at + 80) three at_three short;
      bytes = standing all ((((front ++ head) ++ o) ++ l) ++ n) b after (at + 88) (length account.bytes) four at_four refl;
    }

-- how long a state is
length-state_bytes : (room : ℕ) (account : Account) → length account.bytes ≤ room → HasWidths account → length (state_bytes room account) ≡ 48 + room
unfolding state_bytes
length-state_bytes room account fits has =
    sized account.owner.0 (number_bytes account.lamports) (number_bytes (length account.bytes)) account.bytes
    (replicate (room - length account.bytes) 0) has.owner_is_key refl refl
    (length-replicate (room - length account.bytes) 0) fits
  where
    sized : (o l n b z : List ℕ) → length o ≡ 32 → length l ≡ 8 → length n ≡ 8 → length z ≡ room - length b → length b ≤ room → length ((((o ++ l) ++ n) ++ b) ++ z) ≡ 48 + room
    sized o l n b z eo el en ez le = omega (arith, length-append o l, length-append (o ++ l) n, length-append ((o ++ l) ++ n) b, length-append (((o ++ l) ++ n) ++ b) z)

-- what a first entry, and what stands behind it, are made of: the state of the account behind 40 bytes
record FirstParts (first : List ℕ) (account : Account) (behind : List ℕ) : Type 0 where
  head : List ℕ
  after : List ℕ
  forty : length head ≡ 40
  whole : first ++ behind ≡ head ++ (state_bytes (room_of account) account ++ after)
  long : length first ≡ 40 + length (state_bytes (room_of account) account) + padding (length account.bytes) + 8

first_parts : (signer writable : Bool) (key : Key) (account : Account) (behind : List ℕ) → IsKey key → FirstParts (first_entry signer writable key account) account behind
unfolding first_entry
first_parts signer writable key account behind is_key =
    let flags : List ℕ = (not_listed_before ∷ from_bool signer ∷ from_bool writable ∷ from_bool account.executable ∷ []) ++ replicate 4 0 in
    let state : List ℕ = state_bytes (room_of account) account in
    let p : List ℕ = replicate (padding (length account.bytes)) 0 in
    let q : List ℕ = number_bytes (2 ^ 64 - 1) in
    record {
      head = flags ++ key.0;
      after = p ++ (q ++ behind);
      forty = head_length flags key.0 refl is_key;
      whole = grouped flags key.0 state p q behind;
      long = sized flags key.0 state p q (padding (length account.bytes)) refl is_key (length-replicate (padding (length account.bytes)) 0) refl;
    }
  where
    head_length : (f k : List ℕ) → length f ≡ 8 → length k ≡ 32 → length (f ++ k) ≡ 40
    head_length f k ef ek = omega (arith, length-append f k)

    grouped : (f k st p q rest : List ℕ) → (((f ++ k) ++ st) ++ p ++ q) ++ rest ≡ (f ++ k) ++ (st ++ (p ++ (q ++ rest)))
    grouped f k st p q rest = simp append_assoc refl

    sized : (f k st p q : List ℕ) (pad : ℕ) → length f ≡ 8 → length k ≡ 32 → length p ≡ pad → length q ≡ 8 → length (((f ++ k) ++ st) ++ p ++ q) ≡ 40 + length st + pad + 8
    sized f k st p q pad ef ek ep eq = omega (arith, length-append f k, length-append (f ++ k) st, length-append ((f ++ k) ++ st) p, length-append (((f ++ k) ++ st) ++ p) q)

-- the bytes before an entry, the entry and the bytes behind it
record Split (start : List Account) (metas : List Meta) (entry : ℕ × Meta → List ℕ) (all : List ℕ) (k : ℕ) (meta : Meta) : Type 0 where
  front : List ℕ
  behind : List ℕ
  whole : all ≡ front ++ (entry (k, meta) ++ behind)
  long : length front ≡ entry_start start metas k

module _ (start : List Account) (metas : List Meta) (entry : ℕ × Meta → List ℕ)
    (sized : (k : ℕ) (meta : Meta) → slice_get metas k ≡ Some meta
    → length (entry (k, meta)) ≡ entry_size start metas (k, meta)) where
  -- where an entry starts, so many bytes stand before it
  before_entry : (k : ℕ) → k ≤ length metas → 8 + length (flat_map entry (take k (enumerate_from 0 metas))) ≡ entry_start start metas k
  before_entry zero le = sym (start_zero start metas)
  before_entry (suc k) le =
      let d : Meta = record { index = 0; signer = false; writable = false } in
      let meta : Meta = get_or metas k d in
      let there : slice_get metas k ≡ Some meta = slice_get-get_or metas k d (omega (arith, le)) in
      let so_far : 8 + length (flat_map entry (take k (enumerate_from 0 metas))) ≡ entry_start start metas k = before_entry k (omega (arith, le)) in
      let more : length (flat_map entry (take (k + 1) (enumerate_from 0 metas))) ≡ length (flat_map entry (take k (enumerate_from 0 metas))) + length (entry (k, meta)) =
      ap length (flat_more entry metas k meta there) ∙ length-append (flat_map entry (take k (enumerate_from 0 metas))) (entry (k, meta)) in
      let next : suc k ≡ k + 1 = omega arith in
      let step : 8 + length (flat_map entry (take (k + 1) (enumerate_from 0 metas)))
      ≡ entry_start start metas (k + 1) = omega
      (arith, more, so_far, sized k meta there, start_more start metas k meta there) in
      subst (λ n. 8 + length (flat_map entry (take n (enumerate_from 0 metas))) ≡ entry_start start metas n) (sym next) step

  split : (all number tail : List ℕ) → all ≡ (number ++ flat_map entry (enumerate_from 0 metas)) ++ tail
      → length number ≡ 8 → (k : ℕ) (meta : Meta) → slice_get metas k ≡ Some meta
      → Split start metas entry all k meta
  split all number tail is eight k meta e =
      let items : List (ℕ × Meta) = enumerate_from 0 metas in
      let before : List ℕ = flat_map entry (take k items) in
      let after : List ℕ = flat_map entry (drop (k + 1) items) in
      let all_entries : flat_map entry items ≡ (before ++ entry (k, meta)) ++ after =
      ap (λ (l : List (ℕ × Meta)). flat_map entry l) (sym (take-append-drop (k + 1) items))
      ∙ flat_map-append entry (take (k + 1) items) (drop (k + 1) items)
      ∙ ap (λ (l : List ℕ). l ++ after) (flat_more entry metas k meta e) in
      let below : k ≤ length metas = omega (arith, slice_get_within metas k meta e) in
      record {
        front = number ++ before;
        behind = after ++ tail;
        whole = is ∙ ap (λ (l : List ℕ). (number ++ l) ++ tail) all_entries ∙ grouped number before (entry (k, meta)) after tail;
        long = omega (arith, length-append number before, eight, before_entry k below);
      }
    where
      grouped : (n b e a t : List ℕ) → (n ++ ((b ++ e) ++ a)) ++ t ≡ (n ++ b) ++ (e ++ (a ++ t))
      grouped n b e a t = simp append_assoc refl

module _ (start now : List Account) (metas : List Meta) (region : List ℕ)
    (stand : (k : ℕ) (meta : Meta) → slice_get metas k ≡ Some meta → is_first_listing metas (k, meta) ≡ true → Stands region (entry_start start metas k) (account_in now meta.index))
    (short : (k : ℕ) (meta : Meta) → slice_get metas k ≡ Some meta → is_first_listing metas (k, meta) ≡ true
    → (length (account_in now meta.index).bytes ≤ room_of (account_in start meta.index))
    × (length (account_in now meta.index).bytes ≤ max_data_len)) where
  no_more_than : (room len most : ℕ) → len ≤ room → len ≤ most → (nat_lt room len || nat_lt most len) ≡ false
  no_more_than room len most r m = grind (arith, nat_tests)

  fits : (first : Account) (number len : ℕ) → number ≡ len → len ≤ room_of first → len ≤ max_data_len → (has_outgrown first number || nat_lt max_data_len number) ≡ false
  fits first number len e r m = no_more_than (room_of first) number max_data_len (omega (arith, e, r)) (omega (arith, e, m))

  not_too_long : (k : ℕ) (meta : Meta) → slice_get metas k ≡ Some meta → (b : Bool) → is_first_listing metas (k, meta) ≡ b → (b && is_too_long region start metas (k, meta)) ≡ false
  not_too_long k meta e true first =
      let s = short k meta e first in fits (account_in start meta.index) (data_len_at region (entry_start start metas k)) (length (account_in now meta.index).bytes) (stand k meta e first).len s.0 s.1
  not_too_long k meta e false other = refl

  none_too_long : (k : ℕ) → k ≤ length metas → found_among (is_too_long region start metas) metas k ≡ None
  none_too_long zero le = refl
  none_too_long (suc k) le =
      let d : Meta = record { index = 0; signer = false; writable = false } in
      let meta : Meta = get_or metas k d in
      let there : slice_get metas k ≡ Some meta = slice_get-get_or metas k d (omega (arith, le)) in
      let next : suc k ≡ k + 1 = omega arith in
      subst (λ n. found_among (is_too_long region start metas) metas n ≡ None) (sym next)
      (none_more (is_too_long region start metas) metas k meta _ there refl (not_too_long k meta there (is_first_listing metas (k, meta)) refl) (none_too_long k (omega (arith, le))))

  account_stays : (i : ℕ) (account : Account) → slice_get now i ≡ Some account → account_back region start metas (i, account) ≡ account
  account_stays i account e = by_case (is_listed metas i) refl
    where
      there : account_in now i ≡ account
      there = ap (λ (o : Option Account). unwrap_or o empty_account) e

      at_first : (meta : Meta) → IsFirstOf metas i meta → account_at region (entry_start start metas (first_place metas i)) account ≡ account
      at_first meta first =
          let is : account_in now meta.index ≡ account = ap (λ n. account_in now n) first.same ∙ there in
          let s : Stands region (entry_start start metas (first_place metas i)) account = subst
          (λ (a : Account). Stands region (entry_start start metas (first_place metas i)) a) is
          (stand (first_place metas i) meta first.there first.first) in
          same_account region (entry_start start metas (first_place metas i)) account s.lamports s.owner s.len s.bytes

      by_case : (b : Bool) → is_listed metas i ≡ b → cond b (account_at region (entry_start start metas (first_place metas i)) account) account ≡ account
      by_case true listed = let found = first_of_account metas i listed in at_first found.0 found.1
      by_case false other = refl

  all_stay : (f : ℕ × Account → Account) (n : ℕ) (xs : List Account) → ((i : ℕ) (a : Account) → slice_get xs i ≡ Some a → f (n + i, a) ≡ a) → map f (enumerate_from n xs) ≡ xs
  all_stay f n [] same = refl
  all_stay f n (x ∷ xs) same =
      let here : n + 0 ≡ n = omega arith in
      let first : f (n, x) ≡ x = subst (λ m. f (m, x) ≡ x) here (same 0 x refl) in
      let rest : map f (enumerate_from (n + 1) xs) ≡ xs = all_stay f (n + 1) xs (λ i a e. let next : n + suc i ≡ n + 1 + i = omega arith in subst (λ m. f (m, a) ≡ a) next (same (suc i) a e)) in
      ap (λ (a : Account). a ∷ map f (enumerate_from (n + 1) xs)) first ∙ ap (λ (l : List Account). x ∷ l) rest

  -- a region in which each first listing has its account gives the accounts back
  taken : back region start now metas ≡ Ok now
  taken = back_is region start now metas now (none_too_long (length metas) (omega arith))
      (sym (all_stay (account_back region start metas) 0 now
      (λ i a e. let from_zero : i ≡ 0 + i = omega arith
      in subst (λ n. account_back region start metas (n, a) ≡ a) from_zero (account_stays i a e))))

widths_of_meta : (accounts : List Account) (metas : List Meta) → AreInRange (length accounts) metas
    → HaveWidths accounts → (k : ℕ) (meta : Meta) → slice_get metas k ≡ Some meta
    → HasWidths (account_in accounts meta.index)
widths_of_meta accounts metas range have k meta e =
    let lt : meta.index < length accounts = index_in (length accounts) metas k meta range e in
    subst HasWidths (sym (ap (λ (o : Option Account). unwrap_or o empty_account)
    (slice_get-get_or accounts meta.index empty_account lt)))
    (All-get_or HasWidths accounts meta.index empty_account lt have)

module _ (keys : List Key) (accounts : List Account) (metas : List Meta) (count : length accounts ≡ length keys)
    (range : AreInRange (length accounts) metas) (are_keys : AreKeys keys) (have : HaveWidths accounts) where
  abbrev laid : ℕ × Meta → List ℕ
  laid = entry_of keys accounts metas

  key_of_meta : (k : ℕ) (meta : Meta) → slice_get metas k ≡ Some meta → IsKey (key_in keys meta.index)
  key_of_meta k meta e =
      let d : Key = record { 0 = [] } in
      let lt : meta.index < length keys = subst (λ n. meta.index < n) count (index_in (length accounts) metas k meta range e) in
      subst IsKey (sym (key_there keys meta.index d lt)) (All-get_or IsKey keys meta.index d lt are_keys)

  first_length : (signer writable : Bool) (key : Key) (account : Account) → IsKey key → HasWidths account → length (first_entry signer writable key account) ≡ first_size account
  first_length signer writable key account is_key has =
      let parts : FirstParts (first_entry signer writable key account) account [] = first_parts signer writable key account [] is_key in
      let long = length-state_bytes (room_of account) account (omega arith) has in
      omega (arith, parts.long, long)

  laid_length : (k : ℕ) (meta : Meta) → slice_get metas k ≡ Some meta → length (laid (k, meta)) ≡ entry_size accounts metas (k, meta)
  laid_length k meta e = by_case (is_first_listing metas (k, meta))
    where
      by_case : (b : Bool) → length
          (cond b (first_entry (is_listed_signer metas meta.index) (is_listed_writable metas meta.index)
          (key_in keys meta.index) (account_in accounts meta.index))
          (repeated_entry (first_place metas meta.index)))
          ≡ cond b (first_size (account_in accounts meta.index)) 8
      by_case true = first_length _ _ (key_in keys meta.index) (account_in accounts meta.index) (key_of_meta k meta e) (widths_of_meta accounts metas range have k meta e)
      by_case false = refl

  -- a first listing has its account
  laid_stands : (region tail : List ℕ)
      → region ≡ (number_bytes (length metas) ++ flat_map laid (enumerate_from 0 metas)) ++ tail
      → (k : ℕ) (meta : Meta) → slice_get metas k ≡ Some meta → is_first_listing metas (k, meta) ≡ true
      → Stands region (entry_start accounts metas k) (account_in accounts meta.index)
  laid_stands region tail whole k meta e first =
      let s : Split accounts metas laid region k meta = split accounts metas laid laid_length region (number_bytes (length metas)) tail whole refl k meta e in
      let index : ℕ = meta.index in
      let signer : Bool = is_listed_signer metas index in
      let writable : Bool = is_listed_writable metas index in
      let account : Account = account_in accounts index in
      let is : laid (k, meta) ≡ first_entry signer writable (key_in keys index) account =
      ap (λ (b : Bool). cond b (first_entry signer writable (key_in keys index) account) (repeated_entry (first_place metas index))) first in
      let parts : FirstParts (first_entry signer writable (key_in keys index) account) account s.behind = first_parts signer writable (key_in keys index) account s.behind (key_of_meta k meta e) in
      stands region s.front parts.head parts.after (entry_start accounts metas k) (room_of account) account
      (s.whole ∙ ap (λ (l : List ℕ). s.front ++ (l ++ s.behind)) is ∙ ap (λ (l : List ℕ). s.front ++ l) parts.whole) s.long parts.forty (widths_of_meta accounts metas range have k meta e)

  laid_whole : (input : List ℕ) (program : Key)
      → input_of keys accounts metas input program
      ≡ (number_bytes (length metas) ++ flat_map laid (enumerate_from 0 metas))
      ++ (number_bytes (length input) ++ (input ++ program.0))
  unfolding input_of
  laid_whole input program = grouped (number_bytes (length metas)) (flat_map laid (enumerate_from 0 metas)) (number_bytes (length input)) input program.0
    where
      grouped : (n f l i p : List ℕ) → n ++ f ++ l ++ i ++ p ≡ (n ++ f) ++ (l ++ (i ++ p))
      grouped n f l i p = simp append_assoc refl

  -- bytes as many as were laid out are long enough for the entries
  pub long_enough : (region input : List ℕ) (program : Key) → length region ≡ length (input_of keys accounts metas input program) → IsRegionOf accounts metas region
  long_enough region input program long =
      let items : List (ℕ × Meta) = enumerate_from 0 metas in
      let number : List ℕ = number_bytes (length metas) in
      let entries : List ℕ = flat_map laid items in
      let tail : List ℕ = number_bytes (length input) ++ (input ++ program.0) in
      let all : length (input_of keys accounts metas input program) ≡ length ((number ++ entries) ++ tail) = ap length (laid_whole input program) in
      let end : 8 + length entries ≡ entry_start accounts metas (length metas) =
      ap (λ (l : List (ℕ × Meta)). 8 + length (flat_map laid l)) (sym (all_items metas)) ∙ before_entry accounts metas laid laid_length (length metas) (omega arith) in
      let eight : length number ≡ 8 = refl in
      omega (arith, long, all, end, eight, length-append (number ++ entries) tail, length-append number entries)

-- what was laid out is taken back
pub what_was_laid_out : (keys : List Key) (accounts : List Account) (metas : List Meta) (input : List ℕ)
    (program : Key) → length accounts ≡ length keys → AreInRange (length accounts) metas → AreKeys keys
    → HaveWidths accounts
    → back (input_of keys accounts metas input program) accounts accounts metas ≡ Ok accounts
what_was_laid_out keys accounts metas input program count range are_keys have =
    taken accounts accounts metas (input_of keys accounts metas input program)
    (laid_stands keys accounts metas count range are_keys have (input_of keys accounts metas input program)
    (number_bytes (length input) ++ (input ++ program.0))
    (laid_whole keys accounts metas count range are_keys have input program))
    (λ k meta e first. (omega arith, (widths_of_meta accounts metas range have k meta e).is_short))

module _ (start now : List Account) (metas : List Meta) (region : List ℕ) (count : length now ≡ length start)
    (range : AreInRange (length start) metas) (have : HaveWidths now) (whole : IsRegionOf start metas region)
    (none : found_among (is_outgrown start now) metas (length metas) ≡ None) where
  abbrev over : ℕ × Meta → List ℕ
  over = patched_entry region start now metas

  range_now : AreInRange (length now) metas
  range_now = subst (λ n. AreInRange n metas) (sym count) range

  widths_now : (k : ℕ) (meta : Meta) → slice_get metas k ≡ Some meta → HasWidths (account_in now meta.index)
  widths_now = widths_of_meta now metas range_now have

  not_grown : (k : ℕ) (meta : Meta) → slice_get metas k ≡ Some meta → is_first_listing metas (k, meta) ≡ true → length (account_in now meta.index).bytes ≤ room_of (account_in start meta.index)
  not_grown k meta e first =
      ltb-false (room_of (account_in start meta.index)) (length (account_in now meta.index).bytes) (none_passes (is_outgrown start now) metas k meta e none first)

  old_length : (k : ℕ) (meta : Meta) → slice_get metas k ≡ Some meta → length (take (entry_size start metas (k, meta)) (drop (entry_start start metas k) region)) ≡ entry_size start metas (k, meta)
  old_length k meta e =
      let within = start_within start metas k meta e in
      length-take-le (entry_size start metas (k, meta)) (drop (entry_start start metas k) region) (omega (arith, within, whole, length-drop (entry_start start metas k) region))

  over_length : (b : Bool) (s n : Account) (entry : List ℕ) (size : ℕ) → length entry ≡ size
      → size ≡ cond b (first_size s) 8 → (b ≡ true → length n.bytes ≤ room_of s) → HasWidths n
      → length (cond b (over_entry s n entry) entry) ≡ size
  over_length true s n entry size long is fits has =
      let room : ℕ = room_of s in
      let state : List ℕ = state_bytes room n in
      let state_long : length state ≡ 48 + room = length-state_bytes room n (fits refl) has in
      let front : length (take 40 entry) ≡ 40 = length-take-le 40 entry (omega (arith, long, is)) in
      omega (arith, length-append (take 40 entry ++ state) (drop (40 + length state) entry), length-append (take 40 entry) state, length-drop (40 + length state) entry, front, state_long, long, is)
  over_length false s n entry size long is fits has = long

  over_sized : (k : ℕ) (meta : Meta) → slice_get metas k ≡ Some meta → length (over (k, meta)) ≡ entry_size start metas (k, meta)
  over_sized k meta e =
      over_length (is_first_listing metas (k, meta)) (account_in start meta.index) (account_in now meta.index)
      (take (entry_size start metas (k, meta)) (drop (entry_start start metas k) region))
      (entry_size start metas (k, meta))
      (old_length k meta e) refl (λ first. not_grown k meta e first) (widths_now k meta e)

  -- a first listing has the account that was written over it
  over_stands : (all tail : List ℕ) → all ≡ (take 8 region ++ flat_map over (enumerate_from 0 metas)) ++ tail
      → (k : ℕ) (meta : Meta) → slice_get metas k ≡ Some meta → is_first_listing metas (k, meta) ≡ true
      → Stands all (entry_start start metas k) (account_in now meta.index)
  over_stands all tail is k meta e first =
      let least : 8 ≤ length region = omega (arith, start_least start metas (length metas), whole) in
      let s : Split start metas over all k meta = split start metas over over_sized all (take 8 region) tail is (length-take-le 8 region least) k meta e in
      let old : List ℕ = take (entry_size start metas (k, meta)) (drop (entry_start start metas k) region) in
      let room : ℕ = room_of (account_in start meta.index) in
      let account : Account = account_in now meta.index in
      let state : List ℕ = state_bytes room account in
      let after : List ℕ = drop (40 + length state) old in
      let is_over : over (k, meta) ≡ take 40 old ++ state ++ after = ap (λ (b : Bool). cond b (over_entry (account_in start meta.index) account old) old) first in
      let size : entry_size start metas (k, meta) ≡ first_size (account_in start meta.index) = ap (λ (b : Bool). cond b (first_size (account_in start meta.index)) 8) first in
      let forty : length (take 40 old) ≡ 40 = length-take-le 40 old (omega (arith, old_length k meta e, size)) in
      stands all s.front (take 40 old) (after ++ s.behind) (entry_start start metas k) room account
      (s.whole ∙ ap (λ (l : List ℕ). s.front ++ (l ++ s.behind)) is_over ∙ ap (λ (l : List ℕ). s.front ++ l) (grouped (take 40 old) state after s.behind)) s.long forty (widths_now k meta e)
    where
      grouped : (h st a b : List ℕ) → (h ++ st ++ a) ++ b ≡ h ++ (st ++ (a ++ b))
      grouped h st a b = simp append_assoc refl

  over_taken : (all tail : List ℕ) → all ≡ (take 8 region ++ flat_map over (enumerate_from 0 metas)) ++ tail → back all start now metas ≡ Ok now
  over_taken all tail is = taken start now metas all (over_stands all tail is) (λ k meta e first. (not_grown k meta e first, (widths_now k meta e).is_short))

-- what was patched in is taken back
pub what_was_patched : (region after : List ℕ) (start now : List Account) (metas : List Meta)
    → length now ≡ length start → AreInRange (length start) metas → HaveWidths now
    → IsRegionOf start metas region → patched region start now metas ≡ Ok after
    → back after start now metas ≡ Ok now
unfolding patched
what_was_patched region after start now metas count range have whole e = by_found (find (is_outgrown start now) (first_listings metas)) refl e
  where
    same : (a b : List ℕ) → (let r : Result (List ℕ) ℕ = Ok a in r) ≡ Ok b → a ≡ b
    same a b h = cc

    refused : (item : ℕ) (b : List ℕ) → (let r : Result (List ℕ) ℕ = Err item in r) ≡ Ok b → ⊥
    refused item b h = cc

    by_found : (o : Option (ℕ × Meta)) → find (is_outgrown start now) (first_listings metas) ≡ o
        → unless_found o (take 8 region
        ++ flat_map (patched_entry region start now metas) (enumerate_from 0 metas)
        ++ drop (entry_start start metas (length metas)) region) ≡ Ok after
        → back after start now metas ≡ Ok now
    by_found None none is =
        over_taken start now metas region count range have whole (found_all (is_outgrown start now) metas ∙ none) after (drop (entry_start start metas (length metas)) region) (sym (same _ after is))
    by_found (Some item) found is = absurd (refused item.0 after is)
