-- Accounts and states: what is spelled is read again, and what is read is spelled so.
use Rattle.std.proofs.Common.{◌≡◌, ◌<◌, ◌≤◌, ◌+◌, ◌-◌, ◌^◌, ℕ, zero, suc, List, [], ◌∷◌, ◌++◌, length, map, Ok, Bool, true, false, refl, sym, ap, subst, ◌∙◌, append_assoc, All, lit<, lit≤, arith}
use Rattle.std.specs.Prelude.{◌==◌, nat_le}
use Rattle.std.specs.Int.{w32, w64, to_le_bytes, from_bool}
use Rattle.std.specs.List.{flat_map, AllByRecursion}
use Rattle.std.specs.List.Sorted.{IsStrictlySortedBy}
use Rattle.std.specs.Map.{keys_of}
use Rattle.std.specs.FinMap.{from_entries}
use Rattle.std.proofs.lemmas.Bool.Decides.{nat_tests}
use Rattle.std.proofs.lemmas.List.{map-append, append-nil, length-map}
use Rattle.std.proofs.lemmas.List.Elements.{All-from_recursion}
use Rattle.std.proofs.lemmas.List.Sums.{sum_by_push, sum_by-append}
use Rattle.spec_base.specs.Bytes.{IsBytes}
use Rattle.spec_base.specs.Reading.{byte_at, read_if, read_as, AllAfter}
use Rattle.spec_base.proofs.Binding.{ok_parts, ok_same, onward, follows}
use Rattle.spec_base.proofs.Formats.{Reads, by_taking, byte_reads, u64_reads, read_if_reads, many_after_reads, AllAfter-all, all-AllAfter}
use Rattle.sol_base.specs.declared.key.Key.{Key}
use Rattle.sol_base.specs.declared.account.Account.{Account}
use Rattle.sol_base.specs.Keys.{IsKey, key_bytes, key_cmp}
use Rattle.sol_base.specs.Accounts.{IsShort, max_data_len}
use Rattle.sol_base.proofs.KeyLaws.{key_cmp_exact, key_cmp_total}
use Rattle.format_fields.proofs.FieldLaws.{key_reads}
use Rattle.account_store.specs.declared.sorted.KeyedAccount.{KeyedAccount}
use Rattle.account_store.specs.State.{State, IsHeld, IsState, entries, lamports_of}
use Rattle.account_store.specs.Sorted.{entry_of, entries_of, keyed, Ascend, AreOfState, state_of}
use Rattle.account_store.proofs.EntryLists.{sorted-entries, entries-from_entries, from_entries-entries}
use Rattle.account_store.proofs.SortedLaws.{state_of-is}
use Rattle.snapshot_codec.specs.declared.fault.SnapshotFault.TheVariants.{Truncated, BadField, OutOfOrder, Empty, SupplyTooLarge, TooManyAccounts, DataTooLong}
use Rattle.snapshot_codec.specs.Snapshot.{flag, account_bytes, accounts_bytes, state_bytes, max_accounts}
use Rattle.snapshot_codec.specs.SnapshotReading.{Read, key_after, lamports_after, flag_at, data_at, account_after, entries_at, state_at}
use Rattle.format_fields.proofs.Sized.{sized_reads, sized_field_reads, IsCount, count_fits, count_le}
use Rattle.snapshot_codec.proofs.Ordered.{IsNext, AllAfter-weaker, AllAfter-both, sorted-from_next, next-from_sorted}
use Rattle.snapshot_codec.proofs.MarkLaws.{count_reads}

-- the fields of an account

abbrev key_of : KeyedAccount → Key
key_of e = e.key

abbrev IsAbove : List KeyedAccount → KeyedAccount → Type 0
IsAbove before e = IsNext key_of {cmp = key_cmp} key_cmp_total before e

abbrev KeyPasses : List KeyedAccount → Key → Type 0
KeyPasses before key = IsAbove before (record { key = key; account = record { lamports = 0; owner = key; executable = false; bytes = [] } })

key_after_reads : (total : ℕ) (before : List KeyedAccount) → Reads (key_after total before) key_bytes (λ key. IsKey key × KeyPasses before key)
unfolding key_after
key_after_reads total before = read_if_reads OutOfOrder _ total (key_reads Truncated total)

abbrev supply : List KeyedAccount → ℕ
supply list = lamports_of (entries_of list)

abbrev LamportsPass : List KeyedAccount → ℕ → Type 0
LamportsPass before n = ((n < 2 ^ 64) × (nat_le 1 n ≡ true)) × (nat_le (supply before + n) (2 ^ 64 - 1) ≡ true)

lamports_reads : (total : ℕ) (before : List KeyedAccount) → Reads (lamports_after total before) (to_le_bytes w64) (LamportsPass before)
unfolding lamports_after
lamports_reads total before = read_if_reads (λ _. SupplyTooLarge) _ total (read_if_reads Empty (λ n. nat_le 1 n) total (u64_reads Truncated total))

lamports_pass : (before : List KeyedAccount) (n : ℕ) → 1 ≤ n → supply before + n ≤ 2 ^ 64 - 1 → LamportsPass before n
lamports_pass before n some fits = ((omega arith, grind (arith, nat_tests)), grind (arith, nat_tests))

some_lamports : (before : List KeyedAccount) (n : ℕ) → LamportsPass before n → 1 ≤ n
some_lamports before n h = let t = h.0.1 in grind (arith, nat_tests)

lamports_fit : (before : List KeyedAccount) (n : ℕ) → LamportsPass before n → supply before + n ≤ 2 ^ 64 - 1
lamports_fit before n h = let t = h.1 in grind (arith, nat_tests)

byte_flag_reads : (total : ℕ) → Reads (λ rest. read_if BadField (λ n. nat_le n 1) (byte_at Truncated total) total rest) (λ n. n ∷ []) (λ n. (n < 256) × (nat_le n 1 ≡ true))
byte_flag_reads total = read_if_reads BadField (λ n. nat_le n 1) total (byte_reads Truncated total)

flag_again : (total : ℕ) (is_set : Bool) (rest : List ℕ) → Unit {0} → flag_at total (flag is_set ∷ [] ++ rest) ≡ Ok (is_set, rest)
unfolding flag_at read_as
flag_again total true rest h = rw ((byte_flag_reads total).again 1 rest (lit< tt, refl)) refl
flag_again total false rest h = rw ((byte_flag_reads total).again 0 rest (lit< tt, refl)) refl

flag_takes : (total : ℕ) (bytes : List ℕ) (is_set : Bool) (rest : List ℕ) → IsBytes bytes → flag_at total bytes ≡ Ok (is_set, rest) → Unit {0} × (bytes ≡ flag is_set ∷ [] ++ rest)
unfolding flag_at read_as
flag_takes total bytes is_set rest are h =
    by_taking (byte_flag_reads total) _ bytes (is_set, rest) are h (λ n r1 f1 e1 b1 g1.
    let p = ok_parts _ _ _ _ g1 in
    (tt, subst (λ (b : Bool). bytes ≡ flag b ∷ [] ++ rest) p.0 (spelled n (by_range n f1.1) r1 e1 p.1)))
  where
    by_range : (n : ℕ) → nat_le n 1 ≡ true → flag (n == 1) ≡ n
    by_range zero h = refl
    by_range (suc zero) h = refl
    by_range (suc (suc n)) h = absurd (grind (arith, nat_tests))

    spelled : (n : ℕ) → flag (n == 1) ≡ n → (r : List ℕ) → bytes ≡ n ∷ [] ++ r → r ≡ rest → bytes ≡ flag (n == 1) ∷ [] ++ rest
    spelled n same r e f = e ∙ ap (λ (l : List ℕ). n ∷ l) f ∙ ap (λ m. m ∷ rest) (sym same)

flag_reads : (total : ℕ) → Reads (flag_at total) (λ is_set. flag is_set ∷ []) (λ _. Unit {0})
flag_reads total = record { again = flag_again total; takes = flag_takes total }

abbrev data_bytes : List ℕ → List ℕ
data_bytes data_of = to_le_bytes w32 (length data_of) ++ data_of

data_reads : (total : ℕ) → Reads (data_at total) data_bytes (λ field. IsCount max_data_len (length field) × Unit {0})
unfolding data_at
data_reads total = sized_reads length (count_reads DataTooLong max_data_len total) (sized_field_reads Truncated total)

-- accounts after those before them

pub record KeyedFits (before : List KeyedAccount) (e : KeyedAccount) : Type 0 where
  pub key : IsKey e.key
  pub above : IsAbove before e
  pub some : 1 ≤ e.account.lamports
  pub supply_fits : supply before + e.account.lamports ≤ 2 ^ 64 - 1
  pub owner : IsKey e.account.owner
  pub short : IsShort e.account

abbrev keyed_bytes : KeyedAccount → List ℕ
keyed_bytes e = account_bytes (entry_of e)

account_again : (total : ℕ) (before : List KeyedAccount) (e : KeyedAccount) (rest : List ℕ) → KeyedFits before e → account_after total before (keyed_bytes e ++ rest) ≡ Ok (e, rest)
unfolding account_after
account_again total before e rest fits =
    let a = e.account in
    let field = data_bytes a.bytes ++ rest in
    let flagged = flag a.executable ∷ [] ++ field in
    let owned = key_bytes a.owner ++ flagged in
    let counted = to_le_bytes w64 a.lamports ++ owned in
    let front : keyed_bytes e ++ rest ≡ key_bytes e.key ++ counted = simp append_assoc in
    subst (λ (b : List ℕ). account_after total before b ≡ Ok (e, rest)) (sym front)
    (rw (
      (key_after_reads total before).again e.key counted (fits.key, fits.above),
      (lamports_reads total before).again a.lamports owned (lamports_pass before a.lamports fits.some fits.supply_fits),
      (key_reads Truncated total).again a.owner flagged fits.owner,
      flag_again total a.executable field tt,
      (data_reads total).again a.bytes rest (count_fits max_data_len (length a.bytes) (lit< tt) fits.short, tt),
    ) refl)

account_takes : (total : ℕ) (before : List KeyedAccount) (bytes : List ℕ) (e : KeyedAccount) (rest : List ℕ)
    → IsBytes bytes → account_after total before bytes ≡ Ok (e, rest)
    → KeyedFits before e × (bytes ≡ keyed_bytes e ++ rest)
unfolding account_after
account_takes total before bytes e rest are h =
    by_taking (key_after_reads total before) _ bytes (e, rest) are h (λ key r1 f1 e1 b1 g1.
    by_taking (lamports_reads total before) _ r1 (e, rest) b1 g1 (λ lamports r2 f2 e2 b2 g2.
    by_taking (key_reads Truncated total) _ r2 (e, rest) b2 g2 (λ owner r3 f3 e3 b3 g3.
    by_taking (flag_reads total) _ r3 (e, rest) b3 g3 (λ executable r4 f4 e4 b4 g4.
    by_taking (data_reads total) _ r4 (e, rest) b4 g4 (λ held r5 f5 e5 b5 g5.
    let p = ok_parts _ _ _ _ g5 in
    let to_lamports = follows (key_bytes key) (to_le_bytes w64 lamports) r2 e1 e2 in
    let to_owner = follows (key_bytes key ++ to_le_bytes w64 lamports) (key_bytes owner) r3 to_lamports e3 in
    let to_flag = follows (key_bytes key ++ to_le_bytes w64 lamports ++ key_bytes owner) (flag executable ∷ []) r4 to_owner e4 in
    let front = key_bytes key ++ to_le_bytes w64 lamports ++ key_bytes owner ++ flag executable ∷ [] in
    let all = follows front (data_bytes held) rest to_flag (onward (data_bytes held) e5 p.1) in
    let spelled = all ∙ ap (λ (l : List ℕ). l ++ rest) (sym (append_assoc front (to_le_bytes w32 (length held)) held)) in
    subst (λ (v : KeyedAccount). KeyedFits before v × (bytes ≡ keyed_bytes v ++ rest)) p.0 (
      record {
        key = f1.0;
        above = f1.1;
        some = some_lamports before lamports f2;
        supply_fits = lamports_fit
            before lamports f2;
        owner = f3;
        short = count_le max_data_len (length held) f5.0;
      },
      spelled,
    ))))))

account_reads : (total : ℕ) (before : List KeyedAccount) → Reads (account_after total before) keyed_bytes (KeyedFits before)
account_reads total before = record { again = account_again total before; takes = account_takes total before }

-- one account more has its lamports more
pub supply-more : (before : List KeyedAccount) (e : KeyedAccount) → supply (before ++ e ∷ []) ≡ supply before + e.account.lamports
supply-more before e = ap lamports_of (map-append entry_of before (e ∷ [])) ∙ sum_by_push (λ (d : Key × Account). d.1.lamports) (entries_of before) (entry_of e)

-- lists of accounts

abbrev ListFits : List KeyedAccount → Type 0
ListFits list = IsCount max_accounts (length list) × AllAfter KeyedFits [] list

entries_reads : (total : ℕ) → Reads (entries_at total) (λ list. to_le_bytes w32 (length list) ++ flat_map keyed_bytes list) ListFits
unfolding entries_at
entries_reads total = sized_reads length (count_reads (λ _. TooManyAccounts) max_accounts total) (λ n. many_after_reads (account_reads total) n)

keys-same : (list : List KeyedAccount) → map key_of list ≡ keys_of (entries_of list)
keys-same [] = refl
keys-same (e ∷ list) = ap (λ (ks : List Key). e.key ∷ ks) (keys-same list)

ascend : (list : List KeyedAccount) → AllAfter KeyedFits [] list → Ascend (entries_of list)
ascend list all = subst (IsStrictlySortedBy key_cmp) (keys-same list) (sorted-from_next key_of key_cmp_total list (AllAfter-weaker KeyedFits IsAbove (λ before e h. h.above) [] list all))

supply_after : (before list : List KeyedAccount) → AllAfter KeyedFits before list → supply before ≤ 2 ^ 64 - 1 → supply (before ++ list) ≤ 2 ^ 64 - 1
supply_after before [] all fits = subst (λ (l : List KeyedAccount). supply l ≤ 2 ^ 64 - 1) (sym (append-nil before)) fits
supply_after before (e ∷ list) all fits =
    let more : supply (before ++ e ∷ []) ≤ 2 ^ 64 - 1 = subst (λ n. n ≤ 2 ^ 64 - 1) (sym (supply-more before e)) all.0.supply_fits in
    subst (λ (l : List KeyedAccount). supply l ≤ 2 ^ 64 - 1) (append_assoc before (e ∷ []) list) (supply_after (before ++ e ∷ []) list all.1 more)

-- what holds of each keyed account holds of each entry, and the other way round
each_entry : (P : Key × Account → Type 0) (list : List KeyedAccount) → AllByRecursion (λ e. P (entry_of e)) list → AllByRecursion P (entries_of list)
each_entry P [] h = tt
each_entry P (e ∷ list) h = (h.0, each_entry P list h.1)

kept : (Q : KeyedAccount → Type 0) → ((before : List KeyedAccount) (e : KeyedAccount) → KeyedFits before e → Q e) → (list : List KeyedAccount) → AllAfter KeyedFits [] list → AllByRecursion Q list
kept Q so list all = AllAfter-all Q [] list (AllAfter-weaker KeyedFits (λ _ e. Q e) so [] list all)

of_state : (list : List KeyedAccount) → AllAfter KeyedFits [] list → AreOfState (entries_of list)
of_state list all = record {
  ascend = ascend list all;
  some = All-from_recursion (λ (e : Key × Account). 1 ≤ e.1.lamports) (entries_of list)
      (each_entry (λ (e : Key × Account). 1 ≤ e.1.lamports) list
      (kept (λ e. 1 ≤ e.account.lamports) (λ before e h. h.some) list all));
  fits = supply_after [] list all (lit≤ tt);
}

abbrev state_with : List KeyedAccount → State
state_with list = from_entries (entries_of list)

entries-same : (list : List KeyedAccount) → AllAfter KeyedFits [] list → entries (state_with list) ≡ entries_of list
entries-same list all = entries-from_entries key_cmp_total key_cmp_exact (entries_of list) (ascend list all)

-- states

pub record StateFits (s : State) : Type 0 where
  pub few : length (entries s) ≤ max_accounts
  pub is_state : IsState s
  pub keys : AllByRecursion (λ e. IsKey e.0) (entries s)
  pub owners : AllByRecursion (λ e. IsKey e.1.owner) (entries s)

state_fits : (list : List KeyedAccount) → ListFits list → StateFits (state_with list)
state_fits list fits =
    let same = entries-same list fits.1 in
    let Each : (Key × Account → Type 0) → Type 0 = λ P. AllByRecursion P (entries (state_with list)) in
    record {
      few = subst (λ (es : List (Key × Account)). length es ≤ max_accounts) (sym same) (subst (λ n. n ≤ max_accounts) (sym (length-map list entry_of)) (count_le max_accounts (length list) fits.0));
      is_state = record {
        held = subst (AllByRecursion (λ (e : Key × Account). IsHeld e.1)) (sym same) (each_entry (λ e. IsHeld e.1) list (kept (λ e. IsHeld e.account) (λ before e h. (h.some, h.short)) list fits.1));
        fits = subst (λ (es : List (Key × Account)). lamports_of es ≤ 2 ^ 64 - 1) (sym same) (of_state list fits.1).fits;
      };
      keys = subst (AllByRecursion (λ (e : Key × Account). IsKey e.0)) (sym same) (each_entry (λ e. IsKey e.0) list (kept (λ e. IsKey e.key) (λ before e h. h.key) list fits.1));
      owners = subst (AllByRecursion (λ (e : Key × Account). IsKey e.1.owner)) (sym same)
          (each_entry (λ e. IsKey e.1.owner) list
          (kept (λ e. IsKey e.account.owner) (λ before e h. h.owner) list fits.1));
    }

spelled-same : (list : List KeyedAccount) → flat_map keyed_bytes list ≡ flat_map account_bytes (entries_of list)
spelled-same [] = refl
spelled-same (e ∷ list) = ap (λ (l : List ℕ). keyed_bytes e ++ l) (spelled-same list)

list_bytes-same : (list : List KeyedAccount) → to_le_bytes w32 (length list) ++ flat_map keyed_bytes list ≡ accounts_bytes (entries_of list)
list_bytes-same list = rw (spelled-same list, length-map list entry_of) refl

state_takes : (total : ℕ) (bytes : List ℕ) (s : State) (rest : List ℕ) → IsBytes bytes → state_at total bytes ≡ Ok (s, rest) → StateFits s × (bytes ≡ state_bytes s ++ rest)
unfolding state_at read_as
state_takes total bytes s rest are h =
    by_taking (entries_reads total) _ bytes (s, rest) are h (λ list r1 f1 e1 b1 g1.
    let p = ok_parts _ _ _ _ g1 in
    let same : to_le_bytes w32 (length list) ++ flat_map keyed_bytes list ≡ state_bytes (state_with list) = list_bytes-same list ∙ ap accounts_bytes (sym (entries-same list f1.1)) in
    let all : bytes ≡ state_bytes (state_with list) ++ rest = e1 ∙ ap (λ (l : List ℕ). l ++ r1) same ∙ ap (λ (l : List ℕ). state_bytes (state_with list) ++ l) p.1 in
    subst (λ (v : State). StateFits v × (bytes ≡ state_bytes v ++ rest)) p.0 (state_fits list f1, all))

-- what is asked of the accounts of a state, one after the other

keyed-back : (es : List (Key × Account)) → entries_of (map keyed es) ≡ es
keyed-back [] = refl
keyed-back (e ∷ es) = ap (λ (l : List (Key × Account)). e ∷ l) (keyed-back es)

supply_next : (before list : List KeyedAccount) → supply (before ++ list) ≤ 2 ^ 64 - 1 → AllAfter (λ b e. supply b + e.account.lamports ≤ 2 ^ 64 - 1) before list
supply_next before [] fits = tt
supply_next before (e ∷ list) fits =
    let assoc = append_assoc before (e ∷ []) list in
    let all : supply ((before ++ e ∷ []) ++ list) ≤ 2 ^ 64 - 1 = subst (λ (l : List KeyedAccount). supply l ≤ 2 ^ 64 - 1) (sym assoc) fits in
    let parts : supply ((before ++ e ∷ []) ++ list) ≡ supply (before ++ e ∷ []) + supply list =
    ap lamports_of (map-append entry_of (before ++ e ∷ []) list) ∙ sum_by-append (λ (d : Key × Account). d.1.lamports) (entries_of (before ++ e ∷ [])) (entries_of list) in
    (omega (arith, supply-more before e), supply_next (before ++ e ∷ []) list all)

record AloneFits (e : KeyedAccount) : Type 0 where
  key : IsKey e.key
  held : IsHeld e.account
  owner : IsKey e.account.owner

alone : (es : List (Key × Account)) → AllByRecursion (λ e. IsKey e.0) es → AllByRecursion (λ e. IsHeld e.1) es → AllByRecursion (λ e. IsKey e.1.owner) es → AllByRecursion AloneFits (map keyed es)
alone [] keys held owners = tt
alone (e ∷ es) keys held owners = (record { key = keys.0; held = held.0; owner = owners.0 }, alone es keys.1 held.1 owners.1)

list_fits : (s : State) → StateFits s → AllAfter KeyedFits [] (map keyed (entries s))
list_fits s fits =
    let list = map keyed (entries s) in
    let same = keyed-back (entries s) in
    let sorted : IsStrictlySortedBy key_cmp (map key_of list) = subst (IsStrictlySortedBy key_cmp) (sym (keys-same list ∙ ap keys_of same)) (sorted-entries key_cmp s) in
    let sums : supply ([] ++ list) ≤ 2 ^ 64 - 1 = subst (λ (es : List (Key × Account)). lamports_of es ≤ 2 ^ 64 - 1) (sym same) fits.is_state.fits in
    let Sums : List KeyedAccount → KeyedAccount → Type 0 = λ b e. supply b + e.account.lamports ≤ 2 ^ 64 - 1 in
    let Alone : List KeyedAccount → KeyedAccount → Type 0 = λ _ e. AloneFits e in
    let Both : List KeyedAccount → KeyedAccount → Type 0 = λ b e. IsAbove b e × Sums b e in
    let each = all-AllAfter AloneFits [] list (alone (entries s) fits.keys fits.is_state.held fits.owners) in
    let two = AllAfter-both IsAbove Sums [] list (next-from_sorted key_of key_cmp_total list sorted) (supply_next [] list sums) in
    AllAfter-weaker (λ b e. Both b e × Alone b e) KeyedFits
    (λ b e h. record { key = h.1.key; above = h.0.0; some = h.1.held.0; supply_fits = h.0.1; owner = h.1.owner; short = h.1.held.1 })
    [] list (AllAfter-both Both Alone [] list two each)

state_again : (total : ℕ) (s : State) (rest : List ℕ) → StateFits s → state_at total (state_bytes s ++ rest) ≡ Ok (s, rest)
unfolding state_at read_as
state_again total s rest fits =
    let list = map keyed (entries s) in
    let same : to_le_bytes w32 (length list) ++ flat_map keyed_bytes list ≡ state_bytes s = list_bytes-same list ∙ ap accounts_bytes (keyed-back (entries s)) in
    let few : length list ≤ max_accounts = subst (λ n. n ≤ max_accounts) (sym (length-map (entries s) keyed)) fits.few in
    let read : entries_at total (state_bytes s ++ rest) ≡ Ok (list, rest) =
    subst (λ (b : List ℕ). entries_at total (b ++ rest) ≡ Ok (list, rest)) same ((entries_reads total).again list rest (count_fits max_accounts (length list) (lit< tt) few, list_fits s fits)) in
    let back : state_with list ≡ s = ap (λ (es : List (Key × Account)). from_entries {R = key_cmp} es) (keyed-back (entries s)) ∙ from_entries-entries key_cmp_total key_cmp_exact s in
    rw read (ap (λ (t : State). let r : Read State = Ok (t, rest) in r) back)

pub state_reads : (total : ℕ) → Reads (state_at total) state_bytes StateFits
state_reads total = record { again = state_again total; takes = state_takes total }

-- what the list that was read is good for
pub record IsGood (list : List KeyedAccount) : Type 0 where
  pub few : length list < 2 ^ 32
  pub short : All (λ e. IsShort e.account) list
  pub gives : state_of list ≡ Ok (from_entries (entries_of list))

pub good_list : (total : ℕ) (bytes : List ℕ) (list : List KeyedAccount) (rest : List ℕ) → IsBytes bytes → entries_at total bytes ≡ Ok (list, rest) → IsGood list
good_list total bytes list rest are h =
    let fits = ((entries_reads total).takes bytes list rest are h).0 in
    record {
      few = fits.0.0;
      short = All-from_recursion (λ e. IsShort e.account) list (kept (λ e. IsShort e.account) (λ before e h. h.short) list fits.1);
      gives = state_of-is list (state_with list) (of_state list fits.1) (entries-same list fits.1);
    }

-- the state of a list that was read
pub state_read : (total : ℕ) (bytes : List ℕ) (list : List KeyedAccount) (rest : List ℕ) (s : State)
    → IsBytes bytes → entries_at total bytes ≡ Ok (list, rest) → state_of list ≡ Ok s
    → state_at total bytes ≡ Ok (s, rest)
unfolding state_at read_as
state_read total bytes list rest s are read gives =
    let same : from_entries (entries_of list) ≡ s = ok_same _ _ (sym (good_list total bytes list rest are read).gives ∙ gives) in
    rw read (ap (λ (t : State). let r : Read State = Ok (t, rest) in r) same)

-- the byte of a flag, as code has it and as the format has it
pub flag-same : (is_set : Bool) → from_bool is_set ≡ flag is_set
flag-same true = refl
flag-same false = refl
