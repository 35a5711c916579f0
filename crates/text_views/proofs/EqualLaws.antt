-- No line is written exactly where nothing differs.
use Rattle.std.proofs.Common.{◌≡◌, ◌≤◌, ◌<◌, ℕ, zero, suc, nat_eq, nat_lt, Bool, true, false, List, [], ◌∷◌, ◌++◌, length, codes, if◌then◌else◌, take, drop, Option, Some, None, IfSome, slice_get, flat_map, bytes_eq, decimal, All, inl, inr, refl, sym, ap, subst, ◌∙◌, arith}
use Rattle.std.specs.List.{AllByRecursion}
use Rattle.std.specs.Map.{keys_of}
use Rattle.std.specs.BTreeMap.{is_at}
use Rattle.std.specs.FinMap.{get-entries}
use Rattle.std.specs.Cmp.{eq_by_cmp_equiv}
use Rattle.std.specs.Ordering.{eq_by_cmp}
use Rattle.std.proofs.lemmas.Bool.{cases_lt, cond_both, eqb-true, eq-eqb, ltb-true, ltb-false}
use Rattle.std.proofs.lemmas.Option.{same_Some, slice_get_past}
use Rattle.std.proofs.lemmas.Slice.Eq.{bytes_eq-Decides}
use Rattle.std.proofs.lemmas.List.{take_at, drop_at, length-append}
use Rattle.std.proofs.lemmas.List.Elements.{recursion_from_All}
use Rattle.std.proofs.lemmas.Map.Entries.{place_from_lookup, lookup_from_place}
use Rattle.std.proofs.lemmas.Map.Keys.{IsDistinct-from_sorted}
use Rattle.hex.specs.Hex.{encode_lower}
use Rattle.sol_base.specs.declared.key.Key.{Key}
use Rattle.sol_base.specs.declared.key.Hash32.{Hash32}
use Rattle.sol_base.specs.declared.account.Account.{Account}
use Rattle.sol_base.specs.declared.limits.Limits.{Limits}
use Rattle.sol_base.specs.Keys.{IsHash, hash_bytes, key_cmp}
use Rattle.sol_base.proofs.KeyLaws.{key_cmp_total, same_key-true, same_cmp}
use Rattle.tx_report.specs.declared.status.Status.{Status}
use Rattle.tx_report.specs.Statuses.{IsStatus, status_bytes_of, status_from}
use Rattle.tx_report.proofs.StatusLaws.{status_from-status_bytes_of}
use Rattle.status_cache.specs.declared.recent.Mark.{Mark}
use Rattle.account_store.specs.State.{State, get, entries}
use Rattle.account_store.proofs.EntryLists.{find-lookup, sorted-entries}
use Rattle.account_store.proofs.StateLaws.{same_state}
use Rattle.snapshot_codec.specs.declared.snapshot.Snapshot.{Snapshot}
use Rattle.snapshot_codec.specs.Snapshot as snapshot_codec
use Rattle.block_record.specs.declared.block.Entry.{Entry}
use Rattle.block_record.specs.declared.block.Block.{Block}
use Rattle.block_record.specs.Record as block_record
use Rattle.text_views.specs.Fields.{field_line, shown_status, text_line, number_line, bytes_line, flag_line, status_line, only_in_a, only_in_b}
use Rattle.text_views.specs.Pairs.{pairs_to, pairs_lines, longer}
use Rattle.text_views.specs.AccountLines.{account_place, account_lines, left_by, right_by, left_lines, right_lines, accounts_lines}
use Rattle.text_views.specs.SnapshotLines.{mark_place, mark_lines, mark_pair, limits_lines, snapshot_lines}
use Rattle.text_views.specs.BlockLines.{line_place, line_pair, entry_place, entry_lines, entry_pair, block_lines}
use Rattle.text_views.specs.NoDifference.{SnapshotsAreTold, BlocksAreTold}

-- ---- texts that are empty

none_first : (xs ys : List ℕ) → xs ++ ys ≡ [] → xs ≡ []
none_first [] ys h = refl
none_first (x ∷ xs) ys h = absurd (cc)

none_second : (xs ys : List ℕ) → xs ++ ys ≡ [] → ys ≡ []
none_second [] ys h = h
none_second (x ∷ xs) ys h = absurd (cc)

none_both : {xs ys : List ℕ} → xs ≡ [] → ys ≡ [] → xs ++ ys ≡ []
none_both e f = rw (e, f) refl

ends_some : (xs : List ℕ) (y : ℕ) (ys : List ℕ) → xs ++ y ∷ ys ≡ [] → ⊥
ends_some [] y ys h = cc
ends_some (x ∷ xs) y ys h = cc

-- ---- the lines of fields

field_some : (place field left right : List ℕ) → field_line place field left right ≡ [] → ⊥
unfolding field_line
field_some place field left right h =
    ends_some (place ++ codes " " ++ field ++ codes " " ++ left ++ codes " " ++ right) 10 [] h

only_a_some : (place : List ℕ) → only_in_a place ≡ [] → ⊥
only_a_some place h = ends_some place 32 (codes "only in A\n") h

only_b_some : (place : List ℕ) → only_in_b place ≡ [] → ⊥
only_b_some place h = ends_some place 32 (codes "only in B\n") h

-- a line that is written only where a test fails
test_holds : (b : Bool) (line : List ℕ) → (line ≡ [] → ⊥) → (if b then [] else line) ≡ [] → b ≡ true
test_holds true line some h = refl
test_holds false line some h = absurd (some h)

no_line : (b : Bool) (line : List ℕ) → b ≡ true → (if b then [] else line) ≡ []
no_line true line e = refl
no_line false line e = absurd (cc)

number_told : (place field : List ℕ) (left right : ℕ) → number_line place field left right ≡ [] → left ≡ right
number_told place field left right h =
    eqb-true left right (test_holds (nat_eq left right) (field_line place field (decimal left) (decimal right)) (field_some place field (decimal left) (decimal right)) h)

number_same : (place field : List ℕ) (n : ℕ) → number_line place field n n ≡ []
number_same place field n = no_line (nat_eq n n) (field_line place field (decimal n) (decimal n)) (eq-eqb n n refl)

text_told : (place field left right : List ℕ) → text_line place field left right ≡ [] → left ≡ right
text_told place field left right h =
    (bytes_eq-Decides left right).0 (test_holds (bytes_eq left right) (field_line place field left right) (field_some place field left right) h)

text_same : (place field text : List ℕ) → text_line place field text text ≡ []
text_same place field text = no_line (bytes_eq text text) (field_line place field text text) ((bytes_eq-Decides text text).1 refl)

bytes_told : (place field left right : List ℕ) → bytes_line place field left right ≡ [] → left ≡ right
bytes_told place field left right h =
    (bytes_eq-Decides left right).0
    (test_holds (bytes_eq left right) (field_line place field (encode_lower left) (encode_lower right))
    (field_some place field (encode_lower left) (encode_lower right)) h)

bytes_same : (place field bytes : List ℕ) → bytes_line place field bytes bytes ≡ []
bytes_same place field bytes = no_line (bytes_eq bytes bytes) (field_line place field (encode_lower bytes) (encode_lower bytes)) ((bytes_eq-Decides bytes bytes).1 refl)

flag_told : (place field : List ℕ) (left right : Bool) → flag_line place field left right ≡ [] → left ≡ right
flag_told place field true true h = refl
flag_told place field true false h = absurd (field_some place field (codes "true") (codes "false") h)
flag_told place field false true h = absurd (field_some place field (codes "false") (codes "true") h)
flag_told place field false false h = refl

flag_same : (place field : List ℕ) (flag : Bool) → flag_line place field flag flag ≡ []
flag_same place field true = refl
flag_same place field false = refl

status_told : (place : List ℕ) (left right : Status) → IsStatus left → IsStatus right → status_line place left right ≡ [] → left ≡ right
status_told place left right is_left is_right h =
    let one = status_bytes_of left in
    let two = status_bytes_of right in
    let same : one ≡ two = (bytes_eq-Decides one two).0
    (test_holds (bytes_eq one two)
    (field_line place (codes "status") (shown_status left) (shown_status right))
    (field_some place (codes "status") (shown_status left) (shown_status right)) h) in
    same_Some left right (sym (status_from-status_bytes_of left is_left) ∙ ap status_from same ∙ status_from-status_bytes_of right is_right)

status_same : (place : List ℕ) (status : Status) → status_line place status status ≡ []
status_same place status =
    let bytes = status_bytes_of status in
    no_line (bytes_eq bytes bytes) (field_line place (codes "status") (shown_status status) (shown_status status)) ((bytes_eq-Decides bytes bytes).1 refl)

-- ---- lists, place by place

some_at : {X : Type 0} (P : X → Type 0) (xs : List X) (at : ℕ) → AllByRecursion P xs → IfSome (slice_get xs at) P
some_at P [] at all = tt
some_at P (x ∷ xs) zero all = all.0
some_at P (x ∷ xs) (suc at) all = some_at P xs at all.1

same_places : {X : Type 0} (left right : List X) → ((at : ℕ) → slice_get left at ≡ slice_get right at) → left ≡ right
same_places [] [] h = refl
same_places [] (y ∷ ys) h = let e = h 0 in absurd (cc)
same_places (x ∷ xs) [] h = let e = h 0 in absurd (cc)
same_places (x ∷ xs) (y ∷ ys) h =
    let first = same_Some x y (h 0) in
    let rest = same_places xs ys (λ at. h (suc at)) in
    λ i. first i ∷ rest i

below_told : {X : Type 0} (lines : ℕ → Option X → Option X → List ℕ) (left right : List X) (n : ℕ)
    → pairs_to lines left right n ≡ [] → (at : ℕ) → at < n
    → lines at (slice_get left at) (slice_get right at) ≡ []
below_told lines left right zero h at below = absurd (omega arith)
below_told lines left right (suc n) h at below = elim (cases_lt at n) [
  | inl lower ↦ below_told lines left right n (none_first (pairs_to lines left right n) (lines n (slice_get left n) (slice_get right n)) h) at lower
  | inr upper ↦ let same : n ≡ at = omega arith in
      subst (λ (k : ℕ). lines k (slice_get left k) (slice_get right k) ≡ []) same (none_second (pairs_to lines left right n) (lines n (slice_get left n) (slice_get right n)) h)
]

left_within : (m n : ℕ) → m ≤ longer m n
left_within m n = cond_both (nat_lt m n) n m (λ k. m ≤ k) (λ e. omega (arith, ltb-true m n e)) (λ e. omega arith)

right_within : (m n : ℕ) → n ≤ longer m n
right_within m n = cond_both (nat_lt m n) n m (λ k. n ≤ k) (λ e. omega arith) (λ e. omega (arith, ltb-false m n e))

-- where the lines of a place are none, both lists have the same there
abbrev Tells : {X : Type 0} → (ℕ → Option X → Option X → List ℕ) → (X → Type 0) → Type 0
Tells {X = X} lines P = (at : ℕ) (left right : Option X) → IfSome left P → IfSome right P → lines at left right ≡ [] → left ≡ right

lists_told : {X : Type 0} (lines : ℕ → Option X → Option X → List ℕ) (P : X → Type 0) → Tells lines P
    → (left right : List X) → AllByRecursion P left → AllByRecursion P right → pairs_lines lines left right ≡ []
    → left ≡ right
lists_told lines P tells left right lefts rights h = same_places left right (λ at. elim (cases_lt at (longer (length left) (length right))) [
  | inl below ↦ tells at (slice_get left at) (slice_get right at) (some_at P left at lefts) (some_at P right at rights) (below_told lines left right (longer (length left) (length right)) h at below)
  | inr past ↦ slice_get_past left at (omega (arith, left_within (length left) (length right))) ∙ sym (slice_get_past right at (omega (arith, right_within (length left) (length right))))
])

pairs_same : {X : Type 0} (lines : ℕ → Option X → Option X → List ℕ) (xs : List X) → ((at : ℕ) (x : Option X) → lines at x x ≡ []) → (n : ℕ) → pairs_to lines xs xs n ≡ []
pairs_same lines xs same zero = refl
pairs_same lines xs same (suc n) = none_both (pairs_same lines xs same n) (same n (slice_get xs n))

-- ---- accounts

each_none : {X : Type 0} (lines : X → List ℕ) (xs : List X) → flat_map lines xs ≡ [] → AllByRecursion (λ x. lines x ≡ []) xs
each_none lines [] h = tt
each_none lines (x ∷ xs) h = (none_first (lines x) (flat_map lines xs) h, each_none lines xs (none_second (lines x) (flat_map lines xs) h))

all_none : {X : Type 0} (lines : X → List ℕ) (xs : List X) → AllByRecursion (λ x. lines x ≡ []) xs → flat_map lines xs ≡ []
all_none lines [] h = refl
all_none lines (x ∷ xs) h = none_both h.0 (all_none lines xs h.1)

all_at : {X : Type 0} (P : X → Type 0) (xs : List X) (at : ℕ) (x : X) → AllByRecursion P xs → slice_get xs at ≡ Some x → P x
all_at P [] at x all here = absurd (cc)
all_at P (y ∷ ys) zero x all here = subst P (same_Some y x here) all.0
all_at P (y ∷ ys) (suc at) x all here = all_at P ys at x all.1 here

all_from : {X : Type 0} (P : X → Type 0) (xs : List X) → ((at : ℕ) (x : X) → slice_get xs at ≡ Some x → P x) → AllByRecursion P xs
all_from P [] h = tt
all_from P (x ∷ xs) h = (h 0 x refl, all_from P xs (λ at y here. h (suc at) y here))

-- what holds of each entry holds of the account that is found under a key
of_found : (P : Key × Account → Type 0) (s : State) (key : Key) (account : Account) → AllByRecursion P (entries s) → get s key ≡ Some account → P (key, account)
of_found P s key account all found =
    let t = place_from_lookup (is_at (key_cmp key)) (entries s) account ((sym (find-lookup key_cmp key (entries s)) ∙ sym (get-entries s key)) ∙ found) in
    let same : key ≡ t.1 = same_key-true key t.1 (sym (same_cmp key t.1) ∙ t.3) in
    subst (λ (k : Key). P (k, account)) (sym same) (all_at P (entries s) t.0 (t.1, account) all t.2)

-- and each entry is found
found_at : (s : State) (at : ℕ) (e : Key × Account) → slice_get (entries s) at ≡ Some e → get s e.0 ≡ Some e.1
found_at s at e here =
    (get-entries s e.0 ∙ find-lookup key_cmp e.0 (entries s))
    ∙ lookup_from_place {eq = eq_by_cmp key_cmp} (eq_by_cmp_equiv key_cmp_total) (entries s) at e.0 e.1
    (IsDistinct-from_sorted key_cmp (keys_of (entries s)) (sorted-entries key_cmp s)) here

account_told : (key : Key) (left right : Account) → account_lines key left right ≡ [] → left ≡ right
unfolding account_lines
account_told key left right h =
    let place = account_place key in
    let a = number_line place (codes "lamports") left.lamports right.lamports in
    let b = bytes_line place (codes "owner") left.owner.0 right.owner.0 in
    let c = flag_line place (codes "executable") left.executable right.executable in
    let d = bytes_line place (codes "data") left.bytes right.bytes in
    let three = none_first (a ++ b ++ c) d h in
    let two = none_first (a ++ b) c three in
    let lamports = number_told place (codes "lamports") left.lamports right.lamports (none_first a b two) in
    let owner = bytes_told place (codes "owner") left.owner.0 right.owner.0 (none_second a b two) in
    let executable = flag_told place (codes "executable") left.executable right.executable (none_second (a ++ b) c three) in
    let bytes = bytes_told place (codes "data") left.bytes right.bytes (none_second (a ++ b ++ c) d h) in
    λ i. record { lamports = lamports i; owner = record { 0 = owner i }; executable = executable i; bytes = bytes i }

account_same : (key : Key) (account : Account) → account_lines key account account ≡ []
unfolding account_lines
account_same key account =
    let place = account_place key in
    none_both (none_both (none_both (number_same place (codes "lamports") account.lamports)
    (bytes_same place (codes "owner") account.owner.0))
    (flag_same place (codes "executable") account.executable))
    (bytes_same place (codes "data") account.bytes)

left_told : (right : State) (e : Key × Account) → left_lines right e ≡ [] → get right e.0 ≡ Some e.1
left_told right e h = by_found (get right e.0) h
  where
    by_found : (o : Option Account) → left_by e.0 e.1 o ≡ [] → o ≡ Some e.1
    by_found None h = absurd (only_a_some (account_place e.0) h)
    by_found (Some other) h = ap (λ (account : Account). Some account) (sym (account_told e.0 e.1 other h))

right_told : (left : State) (e : Key × Account) → right_lines left e ≡ [] → get left e.0 ≡ None → ⊥
right_told left e h none = by_found (get left e.0) h none
  where
    by_found : (o : Option Account) → right_by e.0 o ≡ [] → o ≡ None → ⊥
    by_found None h none = only_b_some (account_place e.0) h
    by_found (Some other) h none = cc

accounts_told : (left right : State) → accounts_lines left right ≡ [] → left ≡ right
accounts_told left right h = same_state left right (λ key. by_found key (get left key) (get right key) refl refl)
  where
    by_found : (key : Key) (a b : Option Account) → get left key ≡ a → get right key ≡ b → a ≡ b
    by_found key None None e f = refl
    by_found key None (Some account) e f = absurd
        (right_told left (key, account)
        (of_found (λ d. right_lines left d ≡ []) right key account
        (each_none (right_lines left) (entries right)
        (none_second (flat_map (left_lines right) (entries left)) (flat_map (right_lines left) (entries right))
        h)) f) e)
    by_found key (Some account) b e f = sym
        (left_told right (key, account)
        (of_found (λ d. left_lines right d ≡ []) left key account
        (each_none (left_lines right) (entries left)
        (none_first (flat_map (left_lines right) (entries left)) (flat_map (right_lines left) (entries right))
        h)) e)) ∙ f

accounts_same : (s : State) → accounts_lines s s ≡ []
accounts_same s =
    none_both
    (all_none (left_lines s) (entries s)
    (all_from (λ e. left_lines s e ≡ []) (entries s)
    (λ at e here. subst (λ (o : Option Account). left_by e.0 e.1 o ≡ []) (sym (found_at s at e here))
    (account_same e.0 e.1))))
    (all_none (right_lines s) (entries s) (all_from (λ e. right_lines s e ≡ []) (entries s) (λ at e here. subst (λ (o : Option Account). right_by e.0 o ≡ []) (sym (found_at s at e here)) refl)))

-- ---- marks

hashes_told : (left right : List Hash32) → AllByRecursion IsHash left → AllByRecursion IsHash right → flat_map hash_bytes left ≡ flat_map hash_bytes right → left ≡ right
hashes_told [] [] lefts rights h = refl
hashes_told [] (y ∷ ys) lefts rights h =
    let none : 0 ≡ length (y.0 ++ flat_map hash_bytes ys) = ap length h in
    absurd (omega (arith, none, length-append y.0 (flat_map hash_bytes ys), rights.0))
hashes_told (x ∷ xs) [] lefts rights h =
    let none : length (x.0 ++ flat_map hash_bytes xs) ≡ 0 = ap length h in
    absurd (omega (arith, none, length-append x.0 (flat_map hash_bytes xs), lefts.0))
hashes_told (x ∷ xs) (y ∷ ys) lefts rights h =
    let first : x.0 ≡ y.0 = sym (take_at x.0 (flat_map hash_bytes xs) 32 lefts.0) ∙ ap (take 32) h ∙ take_at y.0 (flat_map hash_bytes ys) 32 rights.0 in
    let rest = hashes_told xs ys lefts.1 rights.1 (sym (drop_at x.0 (flat_map hash_bytes xs) 32 lefts.0) ∙ ap (drop 32) h ∙ drop_at y.0 (flat_map hash_bytes ys) 32 rights.0) in
    λ i. record { 0 = first i } ∷ rest i

abbrev HasNames : Mark → Type 0
HasNames mark = All IsHash mark.messages

mark_told : (at : ℕ) (left right : Mark) → HasNames left → HasNames right → mark_lines at left right ≡ [] → left ≡ right
mark_told at left right lefts rights h =
    let place = mark_place at in
    let a = bytes_line place (codes "hash") left.hash.0 right.hash.0 in
    let b = bytes_line place (codes "messages") (flat_map hash_bytes left.messages) (flat_map hash_bytes right.messages) in
    let hash = bytes_told place (codes "hash") left.hash.0 right.hash.0 (none_first a b h) in
    let messages = hashes_told left.messages right.messages (recursion_from_All IsHash left.messages lefts)
    (recursion_from_All IsHash right.messages rights)
    (bytes_told place (codes "messages") (flat_map hash_bytes left.messages)
    (flat_map hash_bytes right.messages) (none_second a b h)) in
    λ i. record { hash = record { 0 = hash i }; messages = messages i }

marks_told : Tells mark_pair HasNames
marks_told at None None lefts rights h = refl
marks_told at None (Some right) lefts rights h = absurd (only_b_some (mark_place at) h)
marks_told at (Some left) None lefts rights h = absurd (only_a_some (mark_place at) h)
marks_told at (Some left) (Some right) lefts rights h = ap (λ (mark : Mark). Some mark) (mark_told at left right lefts rights h)

mark_same : (at : ℕ) (mark : Option Mark) → mark_pair at mark mark ≡ []
mark_same at None = refl
mark_same at (Some mark) = none_both (bytes_same (mark_place at) (codes "hash") mark.hash.0) (bytes_same (mark_place at) (codes "messages") (flat_map hash_bytes mark.messages))

-- ---- snapshots

limits_told : (left right : Limits) → limits_lines left right ≡ [] → left ≡ right
unfolding limits_lines
limits_told left right h =
    let place = codes "limits" in
    let a = number_line place (codes "keys") left.keys right.keys in
    let b = number_line place (codes "height") left.height right.height in
    let c = number_line place (codes "key_units") left.key_units right.key_units in
    let d = number_line place (codes "block_units") left.block_units right.block_units in
    let three = none_first (a ++ b ++ c) d h in
    let two = none_first (a ++ b) c three in
    let keys = number_told place (codes "keys") left.keys right.keys (none_first a b two) in
    let height = number_told place (codes "height") left.height right.height (none_second a b two) in
    let key_units = number_told place (codes "key_units") left.key_units right.key_units (none_second (a ++ b) c three) in
    let block_units = number_told place (codes "block_units") left.block_units right.block_units (none_second (a ++ b ++ c) d h) in
    λ i. record { keys = keys i; height = height i; key_units = key_units i; block_units = block_units i }

limits_same : (limits : Limits) → limits_lines limits limits ≡ []
unfolding limits_lines
limits_same limits =
    let place = codes "limits" in
    none_both (none_both (none_both (number_same place (codes "keys") limits.keys)
    (number_same place (codes "height") limits.height))
    (number_same place (codes "key_units") limits.key_units))
    (number_same place (codes "block_units") limits.block_units)

snapshot_told : (left right : Snapshot) → snapshot_codec.HasWidths left → snapshot_codec.HasWidths right → snapshot_lines left right ≡ [] → left ≡ right
unfolding snapshot_lines
snapshot_told left right lefts rights h =
    let place = codes "snapshot" in
    let a = number_line place (codes "slot") left.slot right.slot in
    let b = limits_lines left.limits right.limits in
    let c = pairs_lines mark_pair left.recent right.recent in
    let d = accounts_lines left.accounts right.accounts in
    let three = none_first (a ++ b ++ c) d h in
    let two = none_first (a ++ b) c three in
    let slot = number_told place (codes "slot") left.slot right.slot (none_first a b two) in
    let limits = limits_told left.limits right.limits (none_second a b two) in
    let recent = lists_told mark_pair HasNames marks_told left.recent right.recent
    (recursion_from_All HasNames left.recent lefts.names)
    (recursion_from_All HasNames right.recent rights.names) (none_second (a ++ b) c three) in
    let accounts = accounts_told left.accounts right.accounts (none_second (a ++ b ++ c) d h) in
    λ i. record { slot = slot i; limits = limits i; recent = recent i; accounts = accounts i }

snapshot_same : (s : Snapshot) → snapshot_lines s s ≡ []
unfolding snapshot_lines
snapshot_same s =
    none_both (none_both (none_both (number_same (codes "snapshot") (codes "slot") s.slot)
    (limits_same s.limits)) (pairs_same mark_pair s.recent mark_same
    (longer (length s.recent) (length s.recent)))) (accounts_same s.accounts)

pub snapshots_are_told : SnapshotsAreTold
snapshots_are_told left right lefts rights =
    (λ h. snapshot_told left right lefts rights h, λ e. subst (λ (s : Snapshot). snapshot_lines left s ≡ []) e (snapshot_same left))

-- ---- blocks

all_any : (lines : List (List ℕ)) → AllByRecursion (λ line. Unit {0}) lines
all_any [] = tt
all_any (line ∷ lines) = (tt, all_any lines)

lines_told : (entry : List ℕ) → Tells (line_pair entry) (λ line. Unit {0})
lines_told entry at None None lefts rights h = refl
lines_told entry at None (Some right) lefts rights h = absurd (only_b_some (line_place entry at) h)
lines_told entry at (Some left) None lefts rights h = absurd (only_a_some (line_place entry at) h)
lines_told entry at (Some left) (Some right) lefts rights h = ap (λ (line : List ℕ). Some line) (text_told (line_place entry at) (codes "text") left right h)

line_same : (entry : List ℕ) (at : ℕ) (line : Option (List ℕ)) → line_pair entry at line line ≡ []
line_same entry at None = refl
line_same entry at (Some line) = text_same (line_place entry at) (codes "text") line

abbrev HasStatus : Entry → Type 0
HasStatus entry = IsStatus entry.status

entry_told : (at : ℕ) (left right : Entry) → HasStatus left → HasStatus right → entry_lines at left right ≡ [] → left ≡ right
unfolding entry_lines
entry_told at left right is_left is_right h =
    let place = entry_place at in
    let a = bytes_line place (codes "transaction") left.wire right.wire in
    let b = status_line place left.status right.status in
    let c = number_line place (codes "units") left.units right.units in
    let d = number_line place (codes "fee") left.fee right.fee in
    let e = pairs_lines (line_pair place) left.lines right.lines in
    let four = none_first (a ++ b ++ c ++ d) e h in
    let three = none_first (a ++ b ++ c) d four in
    let two = none_first (a ++ b) c three in
    let wire = bytes_told place (codes "transaction") left.wire right.wire (none_first a b two) in
    let status = status_told place left.status right.status is_left is_right (none_second a b two) in
    let units = number_told place (codes "units") left.units right.units (none_second (a ++ b) c three) in
    let fee = number_told place (codes "fee") left.fee right.fee (none_second (a ++ b ++ c) d four) in
    let lines = lists_told (line_pair place) (λ line. Unit {0}) (lines_told place) left.lines right.lines (all_any left.lines) (all_any right.lines) (none_second (a ++ b ++ c ++ d) e h) in
    λ i. record { wire = wire i; status = status i; units = units i; fee = fee i; lines = lines i }

entry_same : (at : ℕ) (entry : Option Entry) → entry_pair at entry entry ≡ []
unfolding entry_lines
entry_same at None = refl
entry_same at (Some entry) =
    let place = entry_place at in
    none_both (none_both (none_both
    (none_both (bytes_same place (codes "transaction") entry.wire) (status_same place entry.status))
    (number_same place (codes "units") entry.units)) (number_same place (codes "fee") entry.fee))
    (pairs_same (line_pair place) entry.lines (line_same place)
    (longer (length entry.lines) (length entry.lines)))

entries_told : Tells entry_pair HasStatus
entries_told at None None lefts rights h = refl
entries_told at None (Some right) lefts rights h = absurd (only_b_some (entry_place at) h)
entries_told at (Some left) None lefts rights h = absurd (only_a_some (entry_place at) h)
entries_told at (Some left) (Some right) lefts rights h = ap (λ (entry : Entry). Some entry) (entry_told at left right lefts rights h)

block_told : (left right : Block) → block_record.HasWidths left → block_record.HasWidths right → block_lines left right ≡ [] → left ≡ right
unfolding block_lines
block_told left right lefts rights h =
    let place = codes "block" in
    let a = number_line place (codes "slot") left.slot right.slot in
    let b = bytes_line place (codes "collector") left.collector.0 right.collector.0 in
    let c = bytes_line place (codes "previous") left.previous.0 right.previous.0 in
    let d = pairs_lines entry_pair left.entries right.entries in
    let e = number_line place (codes "burned") left.burned right.burned in
    let f = number_line place (codes "collected") left.collected right.collected in
    let g = bytes_line place (codes "state") left.state.0 right.state.0 in
    let k = bytes_line place (codes "hash") left.hash.0 right.hash.0 in
    let seven = none_first (a ++ b ++ c ++ d ++ e ++ f ++ g) k h in
    let six = none_first (a ++ b ++ c ++ d ++ e ++ f) g seven in
    let five = none_first (a ++ b ++ c ++ d ++ e) f six in
    let four = none_first (a ++ b ++ c ++ d) e five in
    let three = none_first (a ++ b ++ c) d four in
    let two = none_first (a ++ b) c three in
    let slot = number_told place (codes "slot") left.slot right.slot (none_first a b two) in
    let collector = bytes_told place (codes "collector") left.collector.0 right.collector.0 (none_second a b two) in
    let previous = bytes_told place (codes "previous") left.previous.0 right.previous.0 (none_second (a ++ b) c three) in
    let entries = lists_told entry_pair HasStatus entries_told left.entries right.entries
    (recursion_from_All HasStatus left.entries lefts.statuses)
    (recursion_from_All HasStatus right.entries rights.statuses) (none_second (a ++ b ++ c) d four) in
    let burned = number_told place (codes "burned") left.burned right.burned (none_second (a ++ b ++ c ++ d) e five) in
    let collected = number_told place (codes "collected") left.collected right.collected (none_second (a ++ b ++ c ++ d ++ e) f six) in
    let state = bytes_told place (codes "state") left.state.0 right.state.0 (none_second (a ++ b ++ c ++ d ++ e ++ f) g seven) in
    let hash = bytes_told place (codes "hash") left.hash.0 right.hash.0 (none_second (a ++ b ++ c ++ d ++ e ++ f ++ g) k h) in
    λ i. record {
      slot = slot i;
      collector = record { 0 = collector i };
      previous = record { 0 = previous i };
      entries = entries i;
      burned = burned i;
      collected = collected i;
      state = record { 0 = state i };
      hash = record { 0 = hash i };
    }

block_same : (block : Block) → block_lines block block ≡ []
unfolding block_lines
block_same block =
    let place = codes "block" in
    none_both (none_both (none_both
    (none_both (none_both (none_both
    (none_both (number_same place (codes "slot") block.slot)
    (bytes_same place (codes "collector") block.collector.0))
    (bytes_same place (codes "previous") block.previous.0))
    (pairs_same entry_pair block.entries entry_same (longer (length block.entries) (length block.entries))))
    (number_same place (codes "burned") block.burned))
    (number_same place (codes "collected") block.collected))
    (bytes_same place (codes "state") block.state.0)) (bytes_same place (codes "hash") block.hash.0)

pub blocks_are_told : BlocksAreTold
blocks_are_told left right lefts rights =
    (λ h. block_told left right lefts rights h, λ e. subst (λ (block : Block). block_lines left block ≡ []) e (block_same left))
