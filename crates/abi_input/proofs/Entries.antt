-- The entries of a region, one after another.
use Rattle.std.proofs.Common.{◌≡◌, ◌<◌, ◌≤◌, ◌+◌, ◌*◌, ℕ, List, [], ◌∷◌, ◌++◌, length, take, drop, get_or, Bool, true, false, ◌&&◌, ◌||◌, Some, None, slice_get, refl, sym, ap, ◌∙◌, subst, inl, inr, arith}
use Rattle.std.specs.Prelude.{All, nat_lt, Option, cond, unwrap_or, sum_by}
use Rattle.std.specs.List.{enumerate_from, flat_map}
use Rattle.std.specs.Arc.{arc_value}
use Rattle.std.specs.declared.sync.Arc.{Arc}
use Rattle.std.specs.declared.alloc.Global.{Global}
use Rattle.std.proofs.lemmas.List.{take_more, take_all, append-nil}
use Rattle.std.proofs.lemmas.List.Elements.{All-get_or, All-from_get_or}
use Rattle.std.proofs.lemmas.List.Concat.{flat_map-append}
use Rattle.std.proofs.lemmas.List.FromFn.{get_or-enumerate_from, length-enumerate_from}
use Rattle.std.proofs.lemmas.List.Sums.{sum_by_more, sum_by-take-le, sum_by-le}
use Rattle.std.proofs.lemmas.Bool.{ltb-false, cond-true, cond-false}
use Rattle.std.proofs.lemmas.Option.{slice_get-get_or, slice_get_within, get_or_from_slice_get, slice_get-map, slice_get_read, slice_get_cases}
use Rattle.sol_base.specs.declared.key.Key.{Key}
use Rattle.sol_base.specs.declared.account.Account.{Account}
use Rattle.sol_base.specs.declared.lock.Meta.{Meta}
use Rattle.sol_base.specs.Accounts.{accounts_of, empty_account, max_data_len, IsShort, AreShort}
use Rattle.sol_base.specs.Metas.{is_first_listing, is_listed_signer, is_listed_writable, AreInRange}
use Rattle.abi_input.specs.declared.listing.Listing.{Listing}
use Rattle.abi_input.specs.Listing.{listing_in}
use Rattle.abi_input.specs.Region.{data_len_at, has_outgrown, is_outgrown, is_too_long, over_entry, patched_entry, account_in, key_in, first_place, first_entry, repeated_entry, entry_of, first_size, entry_size, entry_start, max_metas, room_of}

-- a meta with its place, among all of them
pub item_at : (metas : List Meta) (k : ℕ) (meta : Meta) → slice_get metas k ≡ Some meta → get_or (enumerate_from 0 metas) k (k, meta) ≡ (k, meta)
item_at metas k meta e =
    let lt : k < length metas = slice_get_within metas k meta e in
    let first : 0 + k ≡ k = omega arith in
    let second : get_or metas k meta ≡ meta = get_or_from_slice_get metas k meta meta e in
    get_or-enumerate_from 0 metas k (k, meta) lt ∙ ap (λ (n : ℕ). (n, get_or metas k meta)) first ∙ ap (λ (m : Meta). (k, m)) second

pub item_within : (metas : List Meta) (k : ℕ) (meta : Meta) → slice_get metas k ≡ Some meta → k < length (enumerate_from 0 metas)
item_within metas k meta e = rw length-enumerate_from (slice_get_within metas k meta e)

-- what stands for the metas, one more
pub flat_more : {X : Type 0} (f : ℕ × Meta → List X) (metas : List Meta) (k : ℕ) (meta : Meta)
    → slice_get metas k ≡ Some meta
    → flat_map f (take (k + 1) (enumerate_from 0 metas))
    ≡ flat_map f (take k (enumerate_from 0 metas)) ++ f (k, meta)
flat_more {X = X} f metas k meta e =
    let items : List (ℕ × Meta) = enumerate_from 0 metas in
    ap (λ (l : List (ℕ × Meta)). flat_map f l) (take_more items k (k, meta) (item_within metas k meta e))
    ∙ flat_map-append f (take k items) (get_or items k (k, meta) ∷ [])
    ∙ ap (λ (l : List X). flat_map f (take k items) ++ l) (append-nil (f (get_or items k (k, meta))))
    ∙ ap (λ (x : ℕ × Meta). flat_map f (take k items) ++ f x) (item_at metas k meta e)

-- all of them
pub all_items : (metas : List Meta) → take (length metas) (enumerate_from 0 metas) ≡ enumerate_from 0 metas
all_items metas = take_all (length metas) (enumerate_from 0 metas) (rw length-enumerate_from (omega arith))

pub start_zero : (start : List Account) (metas : List Meta) → entry_start start metas 0 ≡ 8
unfolding entry_start
start_zero start metas = refl

pub start_more : (start : List Account) (metas : List Meta) (k : ℕ) (meta : Meta)
    → slice_get metas k ≡ Some meta
    → entry_start start metas (k + 1) ≡ entry_start start metas k + entry_size start metas (k, meta)
unfolding entry_start
start_more start metas k meta e =
    let items : List (ℕ × Meta) = enumerate_from 0 metas in
    let size : ℕ × Meta → ℕ = entry_size start metas in
    let more : sum_by size (take (k + 1) items) ≡ sum_by size (take k items) + size (k, meta) =
    sum_by_more size items k (k, meta) (item_within metas k meta e) ∙ ap (λ (x : ℕ × Meta). sum_by size (take k items) + size x) (item_at metas k meta e) in
    ap (λ n. 8 + n) more ∙ omega arith

ends : (start : List Account) (metas : List Meta) (k : ℕ) → entry_start start metas k ≤ entry_start start metas (length metas)
unfolding entry_start
ends start metas k =
    let items : List (ℕ × Meta) = enumerate_from 0 metas in
    let size : ℕ × Meta → ℕ = entry_size start metas in
    let all : sum_by size (take (length metas) items) ≡ sum_by size items = ap (λ (l : List (ℕ × Meta)). sum_by size l) (all_items metas) in
    let part : sum_by size (take k items) ≤ sum_by size items = sum_by-take-le size items k in
    omega arith

-- an entry ends where all entries end, or before
pub start_within : (start : List Account) (metas : List Meta) (k : ℕ) (meta : Meta)
    → slice_get metas k ≡ Some meta
    → entry_start start metas k + entry_size start metas (k, meta) ≤ entry_start start metas (length metas)
start_within start metas k meta e =
    let more : entry_start start metas (k + 1) ≡ entry_start start metas k + entry_size start metas (k, meta) = start_more start metas k meta e in
    let least : entry_start start metas (k + 1) ≤ entry_start start metas (length metas) = ends start metas (k + 1) in
    omega arith

-- an account that is there
pub account_there : (shares : List (Arc Account Global)) (i : ℕ) (x : Arc Account Global) → i < length shares → x ≡ get_or shares i x → account_in (accounts_of shares) i ≡ arc_value x
account_there shares i x lt is =
    ap (λ (o : Option Account). unwrap_or o empty_account)
    (slice_get-map (λ (share : Arc Account Global). arc_value share) shares i
    ∙ ap (λ (o : Option (Arc Account Global)). option_value o)
    (slice_get_read shares (length shares) i x refl lt is))
  where
    option_value : Option (Arc Account Global) → Option Account
    option_value None = None
    option_value (Some share) = Some (arc_value share)

pub key_there : (keys : List Key) (i : ℕ) (d : Key) → i < length keys → key_in keys i ≡ get_or keys i d
key_there keys i d lt = ap (λ (o : Option Key). unwrap_or o (record { 0 = [] })) (slice_get-get_or keys i d lt)

-- the account of a meta is there
pub index_in : (count : ℕ) (metas : List Meta) (k : ℕ) (meta : Meta) → AreInRange count metas → slice_get metas k ≡ Some meta → meta.index < count
index_in count metas k meta range e =
    let lt : k < length metas = slice_get_within metas k meta e in
    let there : get_or metas k meta ≡ meta = get_or_from_slice_get metas k meta meta e in
    subst (λ (m : Meta). m.index < count) there (All-get_or (λ (m : Meta). m.index < count) metas k meta lt range)

-- an entry at a first listing
entry_first : (keys : List Key) (accounts : List Account) (metas : List Meta) (k : ℕ) (meta : Meta) (key : Key) (account : Account) → is_first_listing metas (k, meta) ≡ true
    → key_in keys meta.index ≡ key → account_in accounts meta.index ≡ account
    → entry_of keys accounts metas (k, meta)
    ≡ first_entry (is_listed_signer metas meta.index) (is_listed_writable metas meta.index) key account
entry_first keys accounts metas k meta key account first same_key same_account =
    let signer : Bool = is_listed_signer metas meta.index in
    let writable : Bool = is_listed_writable metas meta.index in
    cond-true (is_first_listing metas (k, meta)) (first_entry signer writable (key_in keys meta.index) (account_in accounts meta.index)) (repeated_entry (first_place metas meta.index)) first
    ∙ ap (λ (x : Key). first_entry signer writable x (account_in accounts meta.index)) same_key ∙ ap (λ (x : Account). first_entry signer writable key x) same_account

pub entry_again : (keys : List Key) (accounts : List Account) (metas : List Meta) (k : ℕ) (meta : Meta) (i : ℕ)
    → is_first_listing metas (k, meta) ≡ false → i ≡ first_place metas meta.index
    → entry_of keys accounts metas (k, meta) ≡ repeated_entry i
entry_again keys accounts metas k meta i again is =
    cond-false (is_first_listing metas (k, meta))
    (first_entry (is_listed_signer metas meta.index) (is_listed_writable metas meta.index)
    (key_in keys meta.index) (account_in accounts meta.index))
    (repeated_entry (first_place metas meta.index)) again ∙ ap (λ n. repeated_entry n) (sym is)

pub size_first : (start : List Account) (metas : List Meta) (k : ℕ) (meta : Meta) (account : Account)
    → is_first_listing metas (k, meta) ≡ true → account_in start meta.index ≡ account
    → entry_size start metas (k, meta) ≡ first_size account
size_first start metas k meta account first same =
    cond-true (is_first_listing metas (k, meta)) (first_size (account_in start meta.index)) 8 first ∙ ap (λ (x : Account). first_size x) same

pub size_again : (start : List Account) (metas : List Meta) (k : ℕ) (meta : Meta) → is_first_listing metas (k, meta) ≡ false → entry_size start metas (k, meta) ≡ 8
size_again start metas k meta again = cond-false (is_first_listing metas (k, meta)) (first_size (account_in start meta.index)) 8 again

-- an account of the list that is short
pub short_at : (accounts : List Account) (i : ℕ) → AreShort accounts → IsShort (account_in accounts i)
short_at accounts i short = elim (slice_get_cases accounts i).1 [
  | inl (x, lt, is, at) ↦ subst (λ (o : Option Account). IsShort (unwrap_or o empty_account)) (sym is)
      (subst (λ (a : Account). IsShort a) at (All-get_or (λ (a : Account). IsShort a) accounts i x lt short))
  | inr (past, none) ↦ subst (λ (o : Option Account). IsShort (unwrap_or o empty_account)) (sym none) (omega arith)
]

size_most : (accounts : List Account) (metas : List Meta) (item : ℕ × Meta) → AreShort accounts → entry_size accounts metas item ≤ 10496103
size_most accounts metas item short = by_case (is_first_listing metas item) (account_in accounts item.1.index) (short_at accounts item.1.index short)
  where
    by_case : (b : Bool) (account : Account) → IsShort account → cond b (first_size account) 8 ≤ 10496103
    by_case true account h = omega arith
    by_case false account h = omega arith

-- all entries of short accounts are not many bytes
pub start_most : (accounts : List Account) (metas : List Meta) → AreShort accounts → length metas ≤ max_metas → entry_start accounts metas (length metas) ≤ 8 + max_metas * 10496103
unfolding entry_start
start_most accounts metas short most =
    let items : List (ℕ × Meta) = enumerate_from 0 metas in
    let size : ℕ × Meta → ℕ = entry_size accounts metas in
    let all : sum_by size (take (length metas) items) ≡ sum_by size items = ap (λ (l : List (ℕ × Meta)). sum_by size l) (all_items metas) in
    let meta : Meta = record { index = 0; signer = false; writable = false } in
    let each : All (λ (x : ℕ × Meta). size x ≤ 10496103) items = All-from_get_or
    (λ (x : ℕ × Meta). size x ≤ 10496103) items (0, meta)
    (λ i lt. size_most accounts metas (get_or items i (0, meta)) short) in
    let bound : sum_by size items ≤ length items * 10496103 = sum_by-le size 10496103 items each in
    let long : length items ≡ length metas = length-enumerate_from 0 metas in
    omega arith

-- an entry is no longer than all entries
pub first_fits : (start : List Account) (metas : List Meta) (k : ℕ) (meta : Meta) (account : Account)
    → slice_get metas k ≡ Some meta → is_first_listing metas (k, meta) ≡ true
    → account_in start meta.index ≡ account
    → entry_start start metas k + first_size account ≤ entry_start start metas (length metas)
first_fits start metas k meta account e first same =
    let size : entry_size start metas (k, meta) ≡ first_size account = size_first start metas k meta account first same in
    let within : entry_start start metas k + entry_size start metas (k, meta) ≤ entry_start start metas (length metas) = start_within start metas k meta e in
    omega arith

-- what is added at a first listing
pub entry_added : (keys : List Key) (accounts : List Account) (metas : List Meta) (k : ℕ) (meta : Meta)
    (listing : Listing) (i : ℕ) (d : Key) (account : Account) → listing ≡ listing_in metas meta.index
    → is_first_listing metas (k, meta) ≡ true
    → i ≡ meta.index → i < length keys → account_in accounts meta.index ≡ account → first_entry listing.signer listing.writable (get_or keys i d) account ≡ entry_of keys accounts metas (k, meta)
entry_added keys accounts metas k meta listing i d account is first same below account_is =
    let key : key_in keys meta.index ≡ get_or keys i d = ap (λ n. key_in keys n) (sym same) ∙ key_there keys i d below in
    ap (λ (l : Listing). first_entry l.signer l.writable (get_or keys i d) account) is ∙ sym (entry_first keys accounts metas k meta (get_or keys i d) account first key account_is)

pub flat_all : {X : Type 0} (f : ℕ × Meta → List X) (metas : List Meta) (k : ℕ) → length metas ≤ k → flat_map f (take k (enumerate_from 0 metas)) ≡ flat_map f (enumerate_from 0 metas)
flat_all f metas k past = ap (λ (l : List (ℕ × Meta)). flat_map f l) (take_all k (enumerate_from 0 metas) (rw length-enumerate_from past))

-- whether an account has outgrown its place, as the code finds it
pub outgrown_is : (start now : List Account) (metas : List Meta) (k : ℕ) (meta : Meta) (s n : Account)
    (room len : ℕ) → is_first_listing metas (k, meta) ≡ true → account_in start meta.index ≡ s
    → account_in now meta.index ≡ n → room ≡ room_of s → len ≡ length n.bytes
    → nat_lt room len ≡ (is_first_listing metas (k, meta) && is_outgrown start now (k, meta))
outgrown_is start now metas k meta s n room len first same_start same_now is_room is_len =
    let a : room ≡ room_of (account_in start meta.index) = is_room ∙ ap (λ (x : Account). room_of x) (sym same_start) in
    let b : len ≡ length (account_in now meta.index).bytes = is_len ∙ ap (λ (x : Account). length x.bytes) (sym same_now) in
    ap (λ m. nat_lt m len) a ∙ ap (λ m. nat_lt (room_of (account_in start meta.index)) m) b ∙ ap (λ t. t && is_outgrown start now (k, meta)) (sym first)

pub start_least : (start : List Account) (metas : List Meta) (k : ℕ) → 8 ≤ entry_start start metas k
unfolding entry_start
start_least start metas k = omega arith

-- an account that has not outgrown its place
pub not_outgrown : (start now : List Account) (metas : List Meta) (k : ℕ) (meta : Meta) (s n : Account)
    → is_outgrown start now (k, meta) ≡ false → account_in start meta.index ≡ s → account_in now meta.index ≡ n
    → length n.bytes ≤ room_of s
not_outgrown start now metas k meta s n fits same_start same_now =
    ltb-false (room_of s) (length n.bytes)
    (ap (λ (x : Account). nat_lt (room_of x) (length n.bytes)) (sym same_start)
    ∙ ap (λ (x : Account). nat_lt (room_of (account_in start meta.index)) (length x.bytes)) (sym same_now)
    ∙ fits)

-- an entry that is written over, as the code finds it
pub patched_first : (region : List ℕ) (start now : List Account) (metas : List Meta) (k : ℕ) (meta : Meta)
    (s n : Account) (entry : ℕ) → is_first_listing metas (k, meta) ≡ true → account_in start meta.index ≡ s
    → account_in now meta.index ≡ n → entry ≡ entry_start start metas k
    → over_entry s n (take (first_size s) (drop entry region)) ≡ patched_entry region start now metas (k, meta)
patched_first region start now metas k meta s n entry first same_start same_now at =
    let whole : List ℕ = take (entry_size start metas (k, meta)) (drop (entry_start start metas k) region) in
    let same : whole ≡ take (first_size s) (drop entry region) =
    ap (λ m. take m (drop (entry_start start metas k) region)) (size_first start metas k meta s first same_start) ∙ ap (λ m. take (first_size s) (drop m region)) (sym at) in
    sym (cond-true (is_first_listing metas (k, meta)) (over_entry (account_in start meta.index) (account_in now meta.index) whole) whole first
    ∙ ap (λ (x : Account). over_entry x (account_in now meta.index) whole) same_start ∙ ap (λ (x : Account). over_entry s x whole) same_now ∙ ap (λ (l : List ℕ). over_entry s n l) same)

-- whether a length is refused, as the code finds it
pub too_long_is : (region : List ℕ) (start : List Account) (metas : List Meta) (k : ℕ) (meta : Meta)
    (s : Account) (entry : ℕ) → is_first_listing metas (k, meta) ≡ true → account_in start meta.index ≡ s
    → entry ≡ entry_start start metas k
    → (has_outgrown s (data_len_at region entry) || nat_lt max_data_len (data_len_at region entry)) ≡ (is_first_listing metas (k, meta) && is_too_long region start metas (k, meta))
too_long_is region start metas k meta s entry first same at =
    ap (λ e. has_outgrown s (data_len_at region e) || nat_lt max_data_len (data_len_at region e)) at
    ∙ ap (λ (x : Account). has_outgrown x (data_len_at region (entry_start start metas k)) || nat_lt max_data_len (data_len_at region (entry_start start metas k))) (sym same)
    ∙ ap (λ t. t && is_too_long region start metas (k, meta)) (sym first)
