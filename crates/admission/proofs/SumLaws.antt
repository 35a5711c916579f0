-- Sums of units, with one transaction more.
use Rattle.std.proofs.Common.{◌≡◌, ◌≢◌, ℕ, zero, suc, ◌+◌, ◌-◌, ◌%◌, ◌<◌, ◌≤◌, min, max, Bool, true, false, ◌||◌, ◌&&◌, cond, List, [], ◌∷◌, ◌++◌, length, take, filter, get_or, set, refl, sym, ap, ◌∙◌, arith, Option, Some, None, IfSome, subst, unwrap_or, zero-add, nat_lt, eqb, eq-eqb, eqb-true}
use Rattle.std.specs.Prelude.{◌^◌, slice_index, if◌then◌else◌}
use Rattle.std.specs.List.{AllByRecursion, IsDistinct, list_any}
use Rattle.std.specs.BTreeMap.{BTreeMap, get, is_at}
use Rattle.std.proofs.Math.Bool.{and-false, or-false, or-true}
use Rattle.std.proofs.lemmas.Bool.{both_ways, false_from_ne_true}
use Rattle.std.proofs.lemmas.Bool.Decides.{nat_tests}
use Rattle.std.proofs.lemmas.List.{get_or-set_other, get_or-set_same, length-set, take_more}
use Rattle.std.proofs.lemmas.List.Elements.{All-push, filter-append}
use Rattle.std.proofs.lemmas.List.Sums.{sum_by-append, sum_by-cons, sum_by_more_le, sum_by_push}
use Rattle.std.proofs.lemmas.List.Folds.{list_any-append}
use Rattle.sol_base.specs.declared.key.Key.{Key}
use Rattle.sol_base.specs.declared.limits.Limits.{Limits}
use Rattle.sol_base.specs.declared.lock.Lock.{Lock}
use Rattle.sol_base.specs.Keys.{key_cmp, same_key}
use Rattle.sol_base.proofs.KeyLaws.{same_cmp, same_key-true}
use Rattle.sol_base.specs.Locks.{lock_keys}
use Rattle.admission.specs.declared.chosen.Chosen.{Chosen}
use Rattle.admission.specs.declared.refusal.Refusal.TheVariants.{BlockUnits, KeyUnits}
use Rattle.admission.specs.Admission.{late, locks_write, may_write_key, passes_key_units, units_of, units_on}
use Rattle.admission.specs.Sums.{AreSums, HasSums, bucket_of, bucket_sum, passes, sum_at}

-- a bucket is one of them
pub in_buckets : (count : ℕ) (key : Key) → 0 < count → bucket_of count key < count
unfolding bucket_of
in_buckets count key some = rest _ (max count 1) (omega arith)
  where
    rest : (n most : ℕ) → most ≡ count → n % most < count
    rest n most same = omega arith

-- a key has no more units than all together
pub part_of_all : (key : Key) (order : List Chosen) → units_on key order ≤ units_of order
part_of_all key [] = omega arith
part_of_all key (one ∷ others) =
    let part : units_on key (one ∷ others) ≤ one.budget.limit + units_of others = go (may_write_key key one) (part_of_all key others) in
    subst (λ n. units_on key (one ∷ others) ≤ n) (sym (sum_by-cons (λ (chosen : Chosen). chosen.budget.limit) one others)) part
  where
    go : (b : Bool) → units_of (filter (may_write_key key) others) ≤ units_of others
        → units_of (cond b (one ∷ filter (may_write_key key) others) (filter (may_write_key key) others)) ≤
        one.budget.limit + units_of others
    go true more = subst (λ n. n ≤ one.budget.limit + units_of others) (sym (sum_by-cons (λ (chosen : Chosen). chosen.budget.limit) one (filter (may_write_key key) others))) (omega (arith, more))
    go false more = omega (arith, more)

pub units_more : (order : List Chosen) (one : Chosen) → units_of (order ++ one ∷ []) ≡ units_of order + one.budget.limit
units_more order one = sum_by_push (λ (chosen : Chosen). chosen.budget.limit) order one

pub units_on_more : (key : Key) (order : List Chosen) (one : Chosen) → units_on key (order ++ one ∷ []) ≡ units_on key order + (if locks_write one.locks key then one.budget.limit else 0)
units_on_more key order one = ap units_of (filter-append (may_write_key key) order (one ∷ []))
    ∙ sum_by-append (λ (chosen : Chosen). chosen.budget.limit) (filter (may_write_key key) order)
    (filter (may_write_key key) (one ∷ [])) ∙ ap (λ n. units_on key order + n) (go (may_write_key key one))
  where
    go : (b : Bool) → units_of (cond b (one ∷ []) []) ≡ (if b then one.budget.limit else 0)
    go true = zero-add one.budget.limit
    go false = refl

pub sums_more : (order : List Chosen) (units : ℕ) (buckets buckets' : List ℕ)
    (sums sums' : Option (BTreeMap Key ℕ)) (one : Chosen) → HasSums order units buckets sums
    → units + one.budget.limit < 2 ^ 64
    → IsDistinct same_key (lock_keys one.locks) → length buckets' ≡ length buckets
    → ((key : Key) → min (2 ^ 64 - 1) (bucket_sum buckets key + (if locks_write one.locks key then one.budget.limit else 0)) ≤ bucket_sum buckets' key)
    → IfSome sums' (λ next. (key : Key) → sum_at next key ≡ units_on key (order ++ one ∷ [])) → HasSums (order ++ one ∷ []) (units + one.budget.limit) buckets' sums'
sums_more order units buckets buckets' sums sums' one has fits apart same grown each = record {
  all = ap (λ n. n + one.budget.limit) has.all ∙ sym (units_more order one);
  some = let some = has.some in omega (arith, some, same);
  most = λ key.
      let all = has.all in
      let most = has.most key in
      let more = units_on_more key order one in
      let part = part_of_all key (order ++ one ∷ []) in
      let whole = units_more order one in
      let grows = grown key in
      within (units_on key order) (if locks_write one.locks key then one.budget.limit else 0)
      (bucket_sum buckets key) (bucket_sum buckets' key) (units_on key (order ++ one ∷ [])) most more
      (omega (arith, all, part, whole, fits)) grows;
  each = each;
  apart = All-push (λ (chosen : Chosen). IsDistinct same_key (lock_keys chosen.locks)) order one has.apart apart;
}
  where
    within : (had add bucket next now : ℕ) → had ≤ bucket → now ≡ had + add → now < 2 ^ 64 → min (2 ^ 64 - 1) (bucket + add) ≤ next → now ≤ next
    within had add bucket next now most more fits grows = omega arith

-- no key passes where no bucket does
pub none_passes : (order : List Chosen) (buckets : List ℕ) (limit top : ℕ) → ((key : Key) → units_on key order ≤ bucket_sum buckets key) → (locks : List Lock)
    → list_any (λ (lock : Lock). lock.write && passes (bucket_sum buckets lock.key) limit top) locks ≡ false
    → list_any (λ (lock : Lock). lock.write && nat_lt top (units_on lock.key order + limit)) locks ≡ false
none_passes order buckets limit top most [] none = refl
none_passes order buckets limit top most (lock ∷ locks) none =
    go lock.write (nat_lt top (bucket_sum buckets lock.key + limit)) refl (nat_lt top (units_on lock.key order + limit)) refl
    (list_any (λ (lock : Lock). lock.write && passes (bucket_sum buckets lock.key) limit top) locks) (list_any (λ (lock : Lock). lock.write && nat_lt top (units_on lock.key order + limit)) locks)
    (none_passes order buckets limit top most locks) none
  where
    higher : (sum bucket : ℕ) → sum ≤ bucket → nat_lt top (bucket + limit) ≡ false → nat_lt top (sum + limit) ≡ true → ⊥
    higher sum bucket le lower upper = grind (arith, nat_tests)

    go : (w b : Bool) → nat_lt top (bucket_sum buckets lock.key + limit) ≡ b → (u : Bool)
        → nat_lt top (units_on lock.key order + limit) ≡ u → (r s : Bool) → (r ≡ false → s ≡ false)
        → ((w && b) || r) ≡ false → ((w && u) || s) ≡ false
    go false b eb u eu r s more e = more e
    go true true eb u eu r s more e = absurd (cc)
    go true false eb true eu r s more e = absurd (higher (units_on lock.key order) (bucket_sum buckets lock.key) (most lock.key) eb eu)
    go true false eb false eu r s more e = more e

-- the tests that a transaction passes
module _ (limits : Limits) (order inside : List Chosen) (one : Chosen) (view : inside ≡ order) (units : ℕ)
    (all : units ≡ units_of inside) (fits : passes units one.budget.limit limits.block_units ≡ false) where
  late_by : (b : Bool) → passes_key_units limits inside one ≡ b → (if b then Some KeyUnits else None) ≡ late limits order one
  late_by b p =
      let u : nat_lt limits.block_units (units_of order + one.budget.limit) ≡ false = ap (λ n. nat_lt limits.block_units (n + one.budget.limit)) (sym (all ∙ ap units_of view)) ∙ fits in
      sym (ap (λ t. if t then Some BlockUnits else if passes_key_units limits order one then Some KeyUnits else None) u
      ∙ ap (λ t. if t then Some KeyUnits else None) (ap (λ (ls : List Chosen). passes_key_units limits ls one) (sym view) ∙ p))

  pub not_late : (buckets found : List ℕ) (locks : List Lock) (tested : Bool) → ((key : Key) → units_on key inside ≤ bucket_sum buckets key) → found ≡ buckets → locks ≡ one.locks
      → tested ≡ list_any (λ (lock : Lock). lock.write && passes (bucket_sum found lock.key) one.budget.limit limits.key_units) locks → tested ≡ false → None ≡ late limits order one
  not_late buckets found locks tested most e l is none =
      late_by false (none_passes inside buckets one.budget.limit limits.key_units most one.locks
      (ap (λ (ls : List Lock). list_any (λ (lock : Lock). lock.write && passes (bucket_sum buckets lock.key) one.budget.limit limits.key_units) ls) (sym l)
      ∙ ap (λ (bs : List ℕ). list_any (λ (lock : Lock). lock.write && passes (bucket_sum bs lock.key) one.budget.limit limits.key_units) locks) (sym e)
      ∙ sym is ∙ none))

  pub late_by_keys : (sums : BTreeMap Key ℕ) (locks : List Lock) (tested b : Bool) → ((key : Key) → sum_at sums key ≡ units_on key inside) → locks ≡ one.locks
      → tested ≡ list_any (λ (lock : Lock). lock.write && passes (sum_at sums lock.key) one.budget.limit
      limits.key_units) locks → tested ≡ b → (if b then Some KeyUnits else None) ≡ late limits order one
  late_by_keys sums locks tested b told l is e =
      late_by b ((λ i. list_any (λ (lock : Lock). lock.write && nat_lt limits.key_units (sym (told lock.key) i + one.budget.limit)) one.locks)
      ∙ ap (λ (ls : List Lock). list_any (λ (lock : Lock). lock.write && passes (sum_at sums lock.key) one.budget.limit limits.key_units) ls) (sym l) ∙ sym is ∙ e)

-- the sum so far has room for one transaction more
pub room_for : (order : List Chosen) (i : ℕ) (one : Chosen) (key : Key) → i < length order
    → one ≡ get_or order i one → units_of order < 2 ^ 64
    → units_on key (take i order) + one.budget.limit < 2 ^ 64
room_for order i one key l is fits =
    let part = part_of_all key (take i order) in
    let more : units_of (take i order) + one.budget.limit ≤ units_of order = subst
    (λ (o : Chosen). units_of (take i order) + o.budget.limit ≤ units_of order) (sym is)
    (sum_by_more_le (λ (chosen : Chosen). chosen.budget.limit) order i one l) in
    omega (arith, part, more, fits)

pub room_in : (order : List Chosen) (sums : Option (BTreeMap Key ℕ)) (limit : ℕ) → AreSums order sums
    → units_of order + limit < 2 ^ 64 → IfSome sums (λ sums. (key : Key) → sum_at sums key + limit < 2 ^ 64)
room_in order None limit each fits = tt
room_in order (Some sums) limit each fits = λ key. let part = part_of_all key order in let sum = each key in omega (arith, part, sum, fits)

-- ---- the locks of one transaction, one after the other
one_lock : (lock : Lock) (key : Key) → locks_write (lock ∷ []) key ≡ (lock.write && same_key lock.key key)
one_lock lock key = or-false (lock.write && same_key lock.key key)

-- the keys before a place are none of those from there on
apart_at : (locks : List Lock) (i : ℕ) (x : Lock) → i < length locks → x ≡ get_or locks i x → IsDistinct same_key (lock_keys locks) → locks_write (take i locks) x.key ≡ false
unfolding IsDistinct
apart_at [] i x l is d = absurd (omega arith)
apart_at (lock ∷ locks) zero x l is d = refl
apart_at (lock ∷ locks) (suc i) x l is d = go (same_key lock.key x.key) refl (lock.write) (apart_at locks i x (omega arith) is d.1)
  where
    other : (keys : List Lock) (j : ℕ) → j < length keys → x ≡ get_or keys j x → AllByRecursion (λ key. same_key lock.key key ≡ false) (lock_keys keys) → same_key lock.key x.key ≡ false
    other [] j lt e a = absurd (omega arith)
    other (k ∷ ks) zero lt e a = ap (λ (one : Lock). same_key lock.key one.key) e ∙ a.0
    other (k ∷ ks) (suc j) lt e a = other ks j (omega arith) e a.1

    go : (b : Bool) → same_key lock.key x.key ≡ b → (w : Bool) → locks_write (take i locks) x.key ≡ false → ((w && same_key lock.key x.key) || locks_write (take i locks) x.key) ≡ false
    go true e w none = absurd (both_ways _ (other locks i (omega arith) is d.0) e)
    go false e true none = rw (e, none) refl
    go false e false none = none

module _ (locks : List Lock) (i : ℕ) (x : Lock) (l : i < length locks) (is_x : x ≡ get_or locks i x) where
  writes_more : (key : Key) → locks_write (take (i + 1) locks) key ≡ (locks_write (take i locks) key || (x.write && same_key x.key key))
  writes_more key =
      ap (λ ls. locks_write ls key) (take_more locks i x l ∙ ap (λ y. take i locks ++ y ∷ []) (sym is_x))
      ∙ list_any-append (λ lock. lock.write && same_key lock.key key) (take i locks) (x ∷ [])
      ∙ ap (λ b. locks_write (take i locks) key || b) (one_lock x key)

  -- a lock that only reads adds nothing
  pub read_adds_none : (limit : ℕ) (first sums : Key → ℕ) → x.write ≡ false
      → ((key : Key) → sums key ≡ first key + (if locks_write (take i locks) key then limit else 0))
      → (key : Key) → sums key ≡ first key + (if locks_write (take (i + 1) locks) key then limit else 0)
  read_adds_none limit first sums none so_far key =
      so_far key ∙ ap (λ b. first key + (if b then limit else 0))
      (sym (writes_more key ∙ ap (λ w. locks_write (take i locks) key || (w && same_key x.key key)) none
      ∙ or-false (locks_write (take i locks) key)))

  -- a key that is first written now has its first sum
  pub first_sum : (limit : ℕ) (first sums : Key → ℕ) → IsDistinct same_key (lock_keys locks)
      → ((key : Key) → sums key ≡ first key + (if locks_write (take i locks) key then limit else 0))
      → sums x.key ≡ first x.key
  first_sum limit first sums d so_far =
      so_far x.key ∙ ap (λ b. first x.key + (if b then limit else 0)) (apart_at locks i x l is_x d) ∙ (let e : first x.key + 0 ≡ first x.key = omega arith in e)

  pub write_adds : (limit sum : ℕ) (first : Key → ℕ) (sums next : BTreeMap Key ℕ) → x.write ≡ true → IsDistinct same_key (lock_keys locks) → sum ≡ sum_at sums x.key
      → ((key : Key) → get key_cmp next key ≡ cond (is_at (key_cmp x.key) key) (Some (sum + limit)) (get key_cmp sums key))
      → ((key : Key) → sum_at sums key ≡ first key + (if locks_write (take i locks) key then limit else 0))
      → (key : Key) → sum_at next key
      ≡ first key + (if locks_write (take (i + 1) locks) key then limit else 0)
  write_adds limit sum first sums next some d is_sum puts so_far key = go (same_key x.key key) refl
    where
      now : sum_at next key ≡ cond (same_key x.key key) (sum + limit) (sum_at sums key)
      now = ap (λ o. unwrap_or o 0) (puts key ∙ ap (λ b. cond b (Some (sum + limit)) (get key_cmp sums key)) (same_cmp x.key key)) ∙ split (same_key x.key key)
        where
          split : (b : Bool) → unwrap_or (cond b (Some (sum + limit)) (get key_cmp sums key)) 0 ≡ cond b (sum + limit) (sum_at sums key)
          split true = refl
          split false = refl

      more : locks_write (take (i + 1) locks) key ≡ (locks_write (take i locks) key || same_key x.key key)
      more = writes_more key ∙ ap (λ w. locks_write (take i locks) key || (w && same_key x.key key)) some

      go : (b : Bool) → same_key x.key key ≡ b → sum_at next key ≡ first key + (if locks_write (take (i + 1) locks) key then limit else 0)
      go true e =
          let same : x.key ≡ key = same_key-true x.key key e in
          now ∙ ap (λ b. cond b (sum + limit) (sum_at sums key)) e
          ∙ ap (λ n. n + limit) (is_sum ∙ first_sum limit first (sum_at sums) d so_far ∙ ap first same)
          ∙ ap (λ b. first key + (if b then limit else 0)) (sym (more ∙ ap (λ b. locks_write (take i locks) key || b) e ∙ or-true (locks_write (take i locks) key)))
      go false e =
          now ∙ ap (λ b. cond b (sum + limit) (sum_at sums key)) e ∙ so_far key
          ∙ ap (λ b. first key + (if b then limit else 0)) (sym (more ∙ ap (λ b. locks_write (take i locks) key || b) e ∙ or-false (locks_write (take i locks) key)))

  -- ---- the buckets of its locks
  pub read_grows_none : (limit : ℕ) (first sums : Key → ℕ) → x.write ≡ false → ((key : Key) → min (2 ^ 64 - 1) (first key + (if locks_write (take i locks) key then limit else 0)) ≤ sums key)
      → (key : Key) → min (2 ^ 64 - 1) (first key + (if locks_write (take (i + 1) locks) key then limit else 0)) ≤ sums key
  read_grows_none limit first sums none so_far key =
      subst (λ b. min (2 ^ 64 - 1) (first key + (if b then limit else 0)) ≤ sums key)
      (sym (writes_more key ∙ ap (λ w. locks_write (take i locks) key || (w && same_key x.key key)) none
      ∙ or-false (locks_write (take i locks) key))) (so_far key)

  pub write_grows : (limit sum : ℕ) (first : Key → ℕ) (buckets next : List ℕ) → x.write ≡ true
      → 0 < length buckets → min (2 ^ 64 - 1) (slice_index buckets (bucket_of (length buckets) x.key) + limit) ≤
      sum
      → next ≡ set buckets (bucket_of (length buckets) x.key) sum → ((key : Key) → min (2 ^ 64 - 1) (first key + (if locks_write (take i locks) key then limit else 0)) ≤ bucket_sum buckets key)
      → (key : Key) → min (2 ^ 64 - 1) (first key + (if locks_write (take (i + 1) locks) key then limit else 0)) ≤ bucket_sum next key
  write_grows limit sum first buckets next some filled is_sum put so_far key = go (eqb (bucket_of (length buckets) key) (bucket_of (length buckets) x.key)) refl
    where
      now : bucket_sum next key ≡ get_or (set buckets (bucket_of (length buckets) x.key) sum) (bucket_of (length buckets) key) 0
      now = ap (λ (bs : List ℕ). bucket_sum bs key) put
          ∙ ap (λ n. get_or (set buckets (bucket_of (length buckets) x.key) sum) (bucket_of n key) 0)
          (length-set buckets (bucket_of (length buckets) x.key) sum)

      grown : (had held sum : ℕ) (b d : Bool) → min (2 ^ 64 - 1) (had + (if b then limit else 0)) ≤ held
          → min (2 ^ 64 - 1) (held + limit) ≤ sum → min (2 ^ 64 - 1) (had + (if d then limit else 0)) ≤ sum
      grown had held sum true true so_far is = omega arith
      grown had held sum true false so_far is = omega arith
      grown had held sum false true so_far is = omega arith
      grown had held sum false false so_far is = omega arith

      go : (t : Bool) → eqb (bucket_of (length buckets) key) (bucket_of (length buckets) x.key) ≡ t
          → min (2 ^ 64 - 1) (first key + (if locks_write (take (i + 1) locks) key then limit else 0)) ≤
          bucket_sum next key
      go true e =
          let same : bucket_of (length buckets) key ≡ bucket_of (length buckets) x.key = eqb-true _ _ e in
          let is : bucket_sum next key ≡ sum = now
          ∙ ap (λ n. get_or (set buckets (bucket_of (length buckets) x.key) sum) n 0) same
          ∙ get_or-set_same buckets (bucket_of (length buckets) x.key) sum 0
          (in_buckets (length buckets) x.key filled) in
          subst (λ n. min (2 ^ 64 - 1) (first key + (if locks_write (take (i + 1) locks) key then limit else 0)) ≤ n) (sym is)
          (grown (first key) (bucket_sum buckets key) sum (locks_write (take i locks) key)
          (locks_write (take (i + 1) locks) key) (so_far key)
          (subst (λ n. min (2 ^ 64 - 1) (slice_index buckets n + limit) ≤ sum) (sym same) is_sum))
      go false e =
          let other : bucket_of (length buckets) key ≢ bucket_of (length buckets) x.key = λ q. both_ways _ e (eq-eqb _ _ q) in
          let is : bucket_sum next key ≡ bucket_sum buckets key = now ∙ get_or-set_other buckets (bucket_of (length buckets) x.key) (bucket_of (length buckets) key) sum 0 other in
          let differ : same_key x.key key ≡ false = false_from_ne_true (same_key x.key key) (λ q. other (ap (bucket_of (length buckets)) (sym (same_key-true x.key key q)))) in
          subst (λ n. min (2 ^ 64 - 1) (first key + (if locks_write (take (i + 1) locks) key then limit else 0)) ≤ n) (sym is)
          (subst (λ b. min (2 ^ 64 - 1) (first key + (if b then limit else 0)) ≤ bucket_sum buckets key)
          (sym (writes_more key ∙ ap (λ b. locks_write (take i locks) key || (x.write && b)) differ
          ∙ ap (λ b. locks_write (take i locks) key || b) (and-false x.write)
          ∙ or-false (locks_write (take i locks) key))) (so_far key))
