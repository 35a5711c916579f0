-- A snapshot that is read takes as many bytes as its lengths tell.
use Rattle.sol_base.specs.Limits.{max_transactions, max_block_units, max_transaction_keys}
use Rattle.status_cache.specs.Recent.{max_marks}
use Rattle.std.proofs.Common.{◌≡◌, ◌≤◌, ◌<◌, ◌+◌, ◌-◌, ◌*◌, ℕ, zero, suc, List, [], ◌∷◌, ◌++◌, length, take, drop, Result, Ok, Option, Some, None, Bool, true, false, inl, inr, refl, sym, ap, ◌∙◌, arith}
use Rattle.std.specs.Prelude.{nat_lt, option_and_then}
use Rattle.std.specs.Int.{Width, w16, w32, w64, byte_len, from_le_bytes}
use Rattle.std.proofs.lemmas.Bool.Decides.{nat_tests}
use Rattle.std.proofs.lemmas.Option.{same_Some}
use Rattle.std.proofs.lemmas.List.{length-drop, drop-drop}
use Rattle.spec_base.specs.Reading.{place, field_at, byte_at, number_at, read_if, read_as, many_after}
use Rattle.spec_base.proofs.Binding.{bind_ok, chosen, ok_if_true, not_refused, ok_parts, ok_same}
use Rattle.sol_base.specs.declared.key.Hash32.{Hash32}
use Rattle.sol_base.specs.declared.limits.Limits.{Limits}
use Rattle.format_fields.specs.Fields.{key_at, hash_at}
use Rattle.status_cache.specs.declared.recent.Mark.{Mark}
use Rattle.account_store.specs.declared.sorted.KeyedAccount.{KeyedAccount}
use Rattle.account_store.specs.State.{State}
use Rattle.snapshot_codec.specs.declared.fault.SnapshotFault.{SnapshotFault}
use Rattle.snapshot_codec.specs.declared.fault.SnapshotFault.TheVariants.{Truncated, BadField}
use Rattle.snapshot_codec.specs.declared.snapshot.Snapshot.{Snapshot}
use Rattle.snapshot_codec.specs.declared.snapshot.Prefix.{Prefix}
use Rattle.snapshot_codec.specs.SnapshotReading.{Read, count_at, limit_at, height_at, head_at, names_one, names_two, head_one_at, head_two_at, limits_at, name_after, mark_at, marks_at, key_after, lamports_after, flag_at, data_at, account_after, entries_at, state_at, snapshot_at, prefix_of}
use Rattle.snapshot_codec.specs.Length.{behind, count_in_front, behind_sized, behind_mark, behind_account, behind_many, behind_items, head_len, behind_snapshot, told_length}

behind_within : (n : ℕ) (bytes rest : List ℕ) → behind n bytes ≡ Some rest → (n ≤ length bytes) × (drop n bytes ≡ rest)
unfolding behind
behind_within n bytes rest h =
    elim (chosen (nat_lt (length bytes) n) _ _ _ h) [
      | inl p ↦ let e = p.1 in absurd (cc)
      | inr q ↦ (long q.0, same_Some _ _ q.1)
    ]
  where
    long : nat_lt (length bytes) n ≡ false → n ≤ length bytes
    long e = grind (arith, nat_tests)

behind_there : (n : ℕ) (bytes : List ℕ) → n ≤ length bytes → behind n bytes ≡ Some (drop n bytes)
unfolding behind
behind_there n bytes le = let enough : nat_lt (length bytes) n ≡ false = grind (arith, nat_tests) in rw enough refl

-- one stretch of bytes after another
behind_sum : (m n : ℕ) (bytes mid rest : List ℕ) → behind m bytes ≡ Some mid → behind n mid ≡ Some rest → behind (m + n) bytes ≡ Some rest
behind_sum m n bytes mid rest first second =
    let a = behind_within m bytes mid first in
    let b = behind_within n mid rest second in
    let left : length mid ≡ length bytes - m = ap length (sym a.1) ∙ length-drop m bytes in
    let le : m + n ≤ length bytes = omega (arith, a.0, b.0, left) in
    behind_there (m + n) bytes le ∙ ap Some (sym (drop-drop n m bytes) ∙ ap (drop n) a.1 ∙ b.1)

-- the reading leaves what stands behind so many bytes
abbrev Takes : {X E : Type 0} → ℕ → (List ℕ → Result (X × List ℕ) E) → Type 0
Takes {X = X} n one = (bytes : List ℕ) (x : X) (rest : List ℕ) → one bytes ≡ Ok (x, rest) → behind n bytes ≡ Some rest

field_takes : {E : Type 0} (truncated : ℕ → E) (total n : ℕ) → Takes n (field_at truncated total n)
unfolding field_at
field_takes truncated total n bytes field rest h =
    elim (chosen (nat_lt (length bytes) n) _ _ _ h) [
      | inl p ↦ absurd (not_refused p.1)
      | inr q ↦ let k = ok_parts _ _ _ _ q.1 in behind_there n bytes (long q.0) ∙ ap Some k.1
    ]
  where
    long : nat_lt (length bytes) n ≡ false → n ≤ length bytes
    long e = grind (arith, nat_tests)

byte_takes : {E : Type 0} (truncated : ℕ → E) (total : ℕ) → Takes 1 (byte_at truncated total)
unfolding byte_at
byte_takes truncated total bytes b rest h =
    let a = bind_ok (field_at truncated total 1 bytes) _ (b, rest) h in
    field_takes truncated total 1 bytes a.0.0 a.0.1 a.1 ∙ ap Some (ok_parts _ _ _ _ a.2).1

number_takes : {E : Type 0} (truncated : ℕ → E) (width : Width) (total : ℕ) → Takes (byte_len width) (number_at truncated width total)
unfolding number_at
number_takes truncated width total bytes n rest h =
    let a = bind_ok (field_at truncated total (byte_len width) bytes) _ (n, rest) h in
    field_takes truncated total (byte_len width) bytes a.0.0 a.0.1 a.1 ∙ ap Some (ok_parts _ _ _ _ a.2).1

passed : {X E : Type 0} (refusal : ℕ → E) (test : X → Bool) (one : List ℕ → Result (X × List ℕ) E) (total : ℕ)
    (bytes : List ℕ) (x : X) (rest : List ℕ) → read_if refusal test one total bytes ≡ Ok (x, rest)
    → one bytes ≡ Ok (x, rest)
unfolding read_if
passed {X = X} refusal test one total bytes x rest h =
    let a = bind_ok (one bytes) _ (x, rest) h in
    a.1 ∙ ap (λ (p : X × List ℕ). Ok p) (ok_if_true (test a.0.0) (refusal (place total bytes)) a.0 (x, rest) a.2).1

read_if_takes : {X E : Type 0} (n : ℕ) (refusal : ℕ → E) (test : X → Bool) (one : List ℕ → Result (X × List ℕ) E) (total : ℕ) → Takes n one → Takes n (read_if refusal test one total)
read_if_takes n refusal test one total takes bytes x rest h = takes bytes x rest (passed refusal test one total bytes x rest h)

read_as_takes : {X Y E : Type 0} (n : ℕ) (shape : X → Y) (one : List ℕ → Result (X × List ℕ) E) → Takes n one → Takes n (read_as shape one)
unfolding read_as
read_as_takes n shape one takes bytes y rest h =
    let a = bind_ok (one bytes) _ (y, rest) h in
    takes bytes a.0.0 a.0.1 a.1 ∙ ap Some (ok_parts _ _ _ _ a.2).1

field_taken : {E : Type 0} (truncated : ℕ → E) (total n : ℕ) (bytes field rest : List ℕ)
    → field_at truncated total n bytes ≡ Ok (field, rest)
    → (nat_lt (length bytes) n ≡ false) × (take n bytes ≡ field) × (drop n bytes ≡ rest)
unfolding field_at
field_taken truncated total n bytes field rest h =
    elim (chosen (nat_lt (length bytes) n) _ _ _ h) [
      | inl p ↦ absurd (not_refused p.1)
      | inr q ↦ let k = ok_parts _ _ _ _ q.1 in (q.0, k.0, k.1)
    ]

counted : (bytes field after : List ℕ) (n : ℕ) (rest : List ℕ) → nat_lt (length bytes) 4 ≡ false
    → take 4 bytes ≡ field → drop 4 bytes ≡ after → from_le_bytes w32 field ≡ n → after ≡ rest
    → count_in_front bytes ≡ Some (n, rest)
unfolding count_in_front
counted bytes field after n rest enough taken left number same =
    let value : from_le_bytes w32 (take 4 bytes) ≡ n = ap (from_le_bytes w32) taken ∙ number in
    let behind_it : drop 4 bytes ≡ rest = left ∙ same in
    rw enough (ap (λ (m : ℕ). Some (m, drop 4 bytes)) value ∙ ap (λ (l : List ℕ). Some (n, l)) behind_it)

pub number_counts : (total : ℕ) (bytes : List ℕ) (n : ℕ) (rest : List ℕ) → number_at Truncated w32 total bytes ≡ Ok (n, rest) → count_in_front bytes ≡ Some (n, rest)
unfolding number_at
number_counts total bytes n rest h =
    let a = bind_ok (field_at Truncated total 4 bytes) _ (n, rest) h in
    let k = field_taken Truncated total 4 bytes a.0.0 a.0.1 a.1 in
    let p = ok_parts _ _ _ _ a.2 in
    counted bytes a.0.0 a.0.1 n rest k.0 k.1 k.2 p.0 p.1

-- a number of items is read where it is counted
counts : (refusal : ℕ → SnapshotFault) (most total : ℕ) (bytes : List ℕ) (n : ℕ) (rest : List ℕ) → count_at refusal most total bytes ≡ Ok (n, rest) → count_in_front bytes ≡ Some (n, rest)
counts refusal most total bytes n rest h = number_counts total bytes n rest (passed refusal _ (number_at Truncated w32 total) total bytes n rest h)

key_takes : (total : ℕ) → Takes 32 (key_at Truncated total)
key_takes total = read_as_takes 32 _ (field_at Truncated total 32) (field_takes Truncated total 32)

hash_takes : (total : ℕ) → Takes 32 (hash_at Truncated total)
hash_takes total = read_as_takes 32 _ (field_at Truncated total 32) (field_takes Truncated total 32)

name_takes : (total : ℕ) (before : List Hash32) → Takes 32 (name_after total before)
unfolding name_after
name_takes total before = read_if_takes 32 _ _ (hash_at Truncated total) total (hash_takes total)

behind_none : (bytes : List ℕ) → behind 0 bytes ≡ Some bytes
behind_none bytes = behind_there 0 bytes (omega arith)

names_take : (total count : ℕ) (before : List Hash32) → Takes (count * 32) (many_after (name_after total) before count)
unfolding many_after
names_take total zero before bytes names rest h =
    let none : zero * 32 ≡ 0 = omega arith in
    ap (λ n. behind n bytes) none ∙ behind_none bytes ∙ ap Some (ok_parts _ _ _ _ h).1
names_take total (suc count) before bytes names rest h =
    let a = bind_ok (name_after total before bytes) _ (names, rest) h in
    let more : suc count * 32 ≡ 32 + count * 32 = omega arith in
    ap (λ n. behind n bytes) more ∙ behind_sum 32 (count * 32) bytes a.0.1 rest (name_takes total before bytes a.0.0 a.0.1 a.1) (names_take total count (before ++ a.0.0 ∷ []) a.0.1 names rest a.2)

-- a head, a number, and as many bytes as it tells
sized_behind : (head count : ℕ) (size : ℕ → ℕ) (bytes to_count to_parts rest : List ℕ)
    → behind head bytes ≡ Some to_count → count_in_front to_count ≡ Some (count, to_parts)
    → behind (size count) to_parts ≡ Some rest → behind_sized head size bytes ≡ Some rest
sized_behind head count size bytes to_count to_parts rest first second third = rw (first, second) third

-- the reading leaves what stands behind an item
abbrev TakesItem : {X : Type 0} → (List ℕ → Option (List ℕ)) → (List ℕ → Read X) → Type 0
TakesItem {X = X} behind_one one = (bytes : List ℕ) (x : X) (rest : List ℕ) → one bytes ≡ Ok (x, rest) → behind_one bytes ≡ Some rest

mark_takes : (total : ℕ) → TakesItem behind_mark (mark_at total)
unfolding mark_at behind_mark
mark_takes total bytes mark rest h =
    let a = bind_ok (hash_at Truncated total bytes) _ (mark, rest) h in
    let b = bind_ok (count_at BadField max_transactions total a.0.1) _ (mark, rest) a.2 in
    let c = bind_ok (many_after (name_after total) [] b.0.0 b.0.1) _ (mark, rest) b.2 in
    let names = names_take total b.0.0 [] b.0.1 c.0.0 c.0.1 c.1 ∙ ap Some (ok_parts _ _ _ _ c.2).1 in
    sized_behind 32 b.0.0 (λ names. names * 32) bytes a.0.1 b.0.1 rest (hash_takes total bytes a.0.0 a.0.1 a.1) (counts BadField max_transactions total a.0.1 b.0.0 b.0.1 b.1) names

before_takes : (total : ℕ) (before : List KeyedAccount) → Takes 32 (key_after total before)
unfolding key_after
before_takes total before = read_if_takes 32 _ _ (key_at Truncated total) total (key_takes total)

lamports_take : (total : ℕ) (before : List KeyedAccount) → Takes 8 (lamports_after total before)
unfolding lamports_after
lamports_take total before = read_if_takes 8 _ _ _ total (read_if_takes 8 _ _ (number_at Truncated w64 total) total (number_takes Truncated w64 total))

flag_takes : (total : ℕ) → Takes 1 (flag_at total)
unfolding flag_at
flag_takes total = read_as_takes 1 _ _ (read_if_takes 1 _ _ (byte_at Truncated total) total (byte_takes Truncated total))

account_takes : (total : ℕ) (before : List KeyedAccount) → TakesItem behind_account (account_after total before)
unfolding account_after data_at behind_account
account_takes total before bytes account rest h =
    let a = bind_ok (key_after total before bytes) _ (account, rest) h in
    let b = bind_ok (lamports_after total before a.0.1) _ (account, rest) a.2 in
    let c = bind_ok (key_at Truncated total b.0.1) _ (account, rest) b.2 in
    let d = bind_ok (flag_at total c.0.1) _ (account, rest) c.2 in
    let e = bind_ok (data_at total d.0.1) _ (account, rest) d.2 in
    let f = bind_ok (count_at _ _ total d.0.1) _ e.0 e.1 in
    let key = before_takes total before bytes a.0.0 a.0.1 a.1 in
    let lamports = lamports_take total before a.0.1 b.0.0 b.0.1 b.1 in
    let owner = key_takes total b.0.1 c.0.0 c.0.1 c.1 in
    let flag = flag_takes total c.0.1 d.0.0 d.0.1 d.1 in
    let head = behind_sum 72 1 bytes c.0.1 d.0.1 (behind_sum 40 32 bytes b.0.1 c.0.1 (behind_sum 32 8 bytes a.0.1 b.0.1 key lamports) owner) flag in
    let held = field_takes Truncated total f.0.0 f.0.1 e.0.0 e.0.1 f.2 ∙ ap Some (ok_parts _ _ _ _ e.2).1 in
    sized_behind 73 f.0.0 (λ len. len) bytes d.0.1 f.0.1 rest head (counts _ _ total d.0.1 f.0.0 f.0.1 f.1) held

many_take : {X : Type 0} (behind_one : List ℕ → Option (List ℕ)) (one : List X → List ℕ → Read X) → ((before : List X) → TakesItem behind_one (one before))
    → (count : ℕ) (before : List X) (bytes : List ℕ) (xs : List X) (rest : List ℕ) → many_after one before count bytes ≡ Ok (xs, rest) → behind_many behind_one count bytes ≡ Some rest
unfolding many_after behind_many
many_take behind_one one takes zero before bytes xs rest h = ap Some (ok_parts _ _ _ _ h).1
many_take behind_one one takes (suc count) before bytes xs rest h =
    let a = bind_ok (one before bytes) _ (xs, rest) h in
    rw (takes before bytes a.0.0 a.0.1 a.1) (many_take behind_one one takes count (before ++ a.0.0 ∷ []) a.0.1 xs rest a.2)

items_behind : (behind_one : List ℕ → Option (List ℕ)) (count : ℕ) (bytes items rest : List ℕ)
    → count_in_front bytes ≡ Some (count, items) → behind_many behind_one count items ≡ Some rest
    → behind_items behind_one bytes ≡ Some rest
unfolding behind_items
items_behind behind_one count bytes items rest first second = rw first second

marks_take : (total : ℕ) (bytes : List ℕ) (marks : List Mark) (rest : List ℕ) → marks_at total bytes ≡ Ok (marks, rest) → behind_items behind_mark bytes ≡ Some rest
unfolding marks_at
marks_take total bytes marks rest h =
    let a = bind_ok (count_at BadField max_marks total bytes) _ (marks, rest) h in
    items_behind behind_mark a.0.0 bytes a.0.1 rest (counts BadField max_marks total bytes a.0.0 a.0.1 a.1)
    (many_take behind_mark (λ _. mark_at total) (λ _. mark_takes total) a.0.0 [] a.0.1 marks rest a.2)

entries_take : (total : ℕ) (bytes : List ℕ) (entries : List KeyedAccount) (rest : List ℕ) → entries_at total bytes ≡ Ok (entries, rest) → behind_items behind_account bytes ≡ Some rest
unfolding entries_at
entries_take total bytes entries rest h =
    let a = bind_ok (count_at _ _ total bytes) _ (entries, rest) h in
    items_behind behind_account a.0.0 bytes a.0.1 rest (counts _ _ total bytes a.0.0 a.0.1 a.1) (many_take behind_account (account_after total) (account_takes total) a.0.0 [] a.0.1 entries rest a.2)

state_takes : (total : ℕ) (bytes : List ℕ) (state : State) (rest : List ℕ) → state_at total bytes ≡ Ok (state, rest) → behind_items behind_account bytes ≡ Some rest
unfolding state_at read_as
state_takes total bytes state rest h =
    let a = bind_ok (entries_at total bytes) _ (state, rest) h in
    entries_take total bytes a.0.0 a.0.1 a.1 ∙ ap Some (ok_parts _ _ _ _ a.2).1

limits_take : (total : ℕ) → Takes 19 (limits_at total)
unfolding limits_at
limits_take total bytes limits rest h =
    let a = bind_ok (limit_at max_transaction_keys w16 total bytes) _ (limits, rest) h in
    let b = bind_ok (height_at total a.0.1) _ (limits, rest) a.2 in
    let c = bind_ok (limit_at max_block_units w64 total b.0.1) _ (limits, rest) b.2 in
    let d = bind_ok (limit_at max_block_units w64 total c.0.1) _ (limits, rest) c.2 in
    let keys = read_if_takes 2 _ _ _ total (number_takes Truncated w16 total) bytes a.0.0 a.0.1 a.1 in
    let height = read_if_takes 1 _ _ _ total (byte_takes Truncated total) a.0.1 b.0.0 b.0.1 b.1 in
    let key_units = read_if_takes 8 _ _ _ total (number_takes Truncated w64 total) b.0.1 c.0.0 c.0.1 c.1 in
    let block_units = read_if_takes 8 _ _ _ total (number_takes Truncated w64 total) c.0.1 d.0.0 d.0.1 d.1 in
    behind_sum 11 8 bytes c.0.1 rest (behind_sum 3 8 bytes b.0.1 c.0.1 (behind_sum 2 1 bytes a.0.1 b.0.1 keys height) key_units) (block_units ∙ ap Some (ok_parts _ _ _ _ d.2).1)

head_one_takes : (total : ℕ) → Takes 8 (head_one_at total)
unfolding head_one_at
head_one_takes total = read_as_takes 8 _ (number_at Truncated w64 total) (number_takes Truncated w64 total)

head_two_takes : (total : ℕ) → Takes 27 (head_two_at total)
unfolding head_two_at
head_two_takes total bytes head rest h =
    let a = bind_ok (number_at Truncated w64 total bytes) _ (head, rest) h in
    let b = bind_ok (limits_at total a.0.1) _ (head, rest) a.2 in
    let slot = number_takes Truncated w64 total bytes a.0.0 a.0.1 a.1 in
    behind_sum 8 19 bytes a.0.1 rest slot (limits_take total a.0.1 b.0.0 b.0.1 b.1 ∙ ap Some (ok_parts _ _ _ _ b.2).1)

-- what stands behind the bytes before the marks
abbrev behind_head : List ℕ → Option (List ℕ)
behind_head bytes = option_and_then (λ head. behind head bytes) (head_len bytes)

one_behind : (bytes rest : List ℕ) → nat_lt (length bytes) 8 ≡ false → names_one (take 8 bytes) ≡ true → behind 16 bytes ≡ Some rest → behind_head bytes ≡ Some rest
unfolding head_len
one_behind bytes rest enough one there = rw (enough, one) there

two_behind : (bytes rest : List ℕ) → nat_lt (length bytes) 8 ≡ false → names_one (take 8 bytes) ≡ false → names_two (take 8 bytes) ≡ true → behind 35 bytes ≡ Some rest → behind_head bytes ≡ Some rest
unfolding head_len
two_behind bytes rest enough one two there = rw (enough, one, two) there

head_takes : (total : ℕ) (bytes : List ℕ) (head : ℕ × Limits) (rest : List ℕ) → head_at total bytes ≡ Ok (head, rest) → behind_head bytes ≡ Some rest
unfolding head_at
head_takes total bytes head rest h =
    let a = bind_ok (field_at Truncated total 8 bytes) _ (head, rest) h in
    let m = field_taken Truncated total 8 bytes a.0.0 a.0.1 a.1 in
    let magic = field_takes Truncated total 8 bytes a.0.0 a.0.1 a.1 in
    elim (chosen (names_one a.0.0) _ _ _ a.2) [
      | inl p ↦ one_behind bytes rest m.0 (ap names_one m.1 ∙ p.0) (behind_sum 8 8 bytes a.0.1 rest magic (head_one_takes total a.0.1 head rest p.1))
      | inr q ↦ elim (chosen (names_two a.0.0) _ _ _ q.1) [
        | inl r ↦ two_behind bytes rest m.0 (ap names_one m.1 ∙ q.0) (ap names_two m.1 ∙ r.0) (behind_sum 8 27 bytes a.0.1 rest magic (head_two_takes total a.0.1 head rest r.1))
        | inr s ↦ absurd (not_refused s.1)
      ]
    ]

snapshot_behind : (bytes marks accounts rest : List ℕ) → behind_head bytes ≡ Some marks
    → behind_items behind_mark marks ≡ Some accounts → behind_items behind_account accounts ≡ Some rest
    → behind_snapshot bytes ≡ Some rest
unfolding behind_snapshot
snapshot_behind bytes marks accounts rest first second third = rw (first, second) third

snapshot_takes : (total : ℕ) (bytes : List ℕ) (snapshot : Snapshot) (rest : List ℕ) → snapshot_at total bytes ≡ Ok (snapshot, rest) → behind_snapshot bytes ≡ Some rest
unfolding snapshot_at
snapshot_takes total bytes snapshot rest h =
    let a = bind_ok (head_at total bytes) _ (snapshot, rest) h in
    let b = bind_ok (marks_at total a.0.1) _ (snapshot, rest) a.2 in
    let c = bind_ok (state_at total b.0.1) _ (snapshot, rest) b.2 in
    let state = state_takes total b.0.1 c.0.0 c.0.1 c.1 ∙ ap Some (ok_parts _ _ _ _ c.2).1 in
    snapshot_behind bytes a.0.1 b.0.1 rest (head_takes total bytes a.0.0 a.0.1 a.1) (marks_take total a.0.1 b.0.0 b.0.1 b.1) state

-- the length of the snapshot that is read
pub told : (bytes : List ℕ) (prefix : Prefix) → prefix_of bytes ≡ Ok prefix → told_length bytes ≡ Some prefix.length
unfolding prefix_of told_length
told bytes prefix h =
    let a = bind_ok (snapshot_at (length bytes) bytes) _ prefix h in
    rw (snapshot_takes (length bytes) bytes a.0.0 a.0.1 a.1) (ap (λ (p : Prefix). Some p.length) (ok_same _ _ a.2))

-- passing items one by one, as a loop does

pub one_more : (one : List ℕ → Option (List ℕ)) (count i : ℕ) (bytes after : List ℕ) (total : Option (List ℕ))
    → i < count → one bytes ≡ Some after → behind_many one (count - i) bytes ≡ total
    → behind_many one (count - (i + 1)) after ≡ total
unfolding behind_many
one_more one count i bytes after total lt h so_far =
    let k : count - i ≡ suc (count - (i + 1)) = omega arith in
    let first : behind_many one (count - i) bytes ≡ behind_many one (count - (i + 1)) after = rw (k, h) refl in
    sym first ∙ so_far

pub cut : (one : List ℕ → Option (List ℕ)) (count i : ℕ) (bytes : List ℕ) (total : Option (List ℕ)) → i < count → one bytes ≡ None → behind_many one (count - i) bytes ≡ total → None ≡ total
unfolding behind_many
cut one count i bytes total lt h so_far =
    let k : count - i ≡ suc (count - (i + 1)) = omega arith in
    let first : behind_many one (count - i) bytes ≡ None = rw (k, h) refl in
    sym first ∙ so_far

pub all_passed : (one : List ℕ → Option (List ℕ)) (count i : ℕ) (bytes : List ℕ) (total : Option (List ℕ)) → count ≤ i → behind_many one (count - i) bytes ≡ total → Some bytes ≡ total
unfolding behind_many
all_passed one count i bytes total le so_far =
    let k : count - i ≡ 0 = omega arith in
    let first : behind_many one (count - i) bytes ≡ Some bytes = rw k refl in
    sym first ∙ so_far
