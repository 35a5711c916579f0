-- What lies between two states, put into the first, gives the second.
use Rattle.std.proofs.Common.{◌≡◌, ⊎_elim, suc, ◌+◌, ◌-◌, ◌^◌, ◌≤◌, List, [], ◌∷◌, length, map, filter, Bool, true, false, cond, not, ◌&&◌, ◌||◌, ◌==◌, nat_le, Option, Some, None, is_none, refl, sym, ◌∙◌, ap, subst, arith, le-leb, eqb-true, unwrap_or}
use Rattle.std.specs.List.{AllByRecursion}
use Rattle.std.specs.List.Sorted.{IsStrictlySortedBy}
use Rattle.std.specs.Ordering.{is_eq}
use Rattle.std.specs.declared.cmp.Ordering.TheVariants.{Less}
use Rattle.std.specs.Map.{keys_of}
use Rattle.std.specs.FinMap.{find, get-entries, from_entries, len-entries}
use mathlib.Core.Bool.{beq}
use Rattle.std.specs.Prelude.{nat_eq}
use Rattle.std.specs.Cmp.Lexicographic.{bytes_decides, pointwise}
use Rattle.std.proofs.lemmas.Bool.{both_ways, false≢true, and_parts, or_left, or_right, or_cases, or_parts, not-false, cond-true, cond-false}
use Rattle.std.proofs.lemmas.Bool.Decides.{nat_tests}
use Rattle.std.proofs.lemmas.List.Sums.{sum_by-cons}
use Rattle.std.proofs.lemmas.Option.{same_Some}
use Rattle.sol_base.specs.declared.key.Key.{Key}
use Rattle.sol_base.specs.declared.account.Account.{Account}
use Rattle.sol_base.specs.Keys.{key_cmp, same_key, has_key}
use Rattle.sol_base.specs.Accounts.{empty_account}
use Rattle.sol_base.proofs.KeyLaws.{key_cmp_exact, key_cmp_total, same_cmp, same_key-true, same_key-self, same_key-false}
use Rattle.account_store.specs.State.{State, IsHeld, IsState, at, empty, entries, get, len, lamports_of, put, remove, sum, kept}
use Rattle.account_store.proofs.EntryLists.{sorted-entries, entries-from_entries}
use Rattle.account_store.proofs.StateLaws.{entries-empty, same_state, get-put_key, get-remove_key, sum-put, sum-put-le}
use Rattle.ledger_store.specs.Changes.{same_account, is_kept, left_by, gone_by, puts, without, with_accounts}
use Rattle.spec_base.proofs.Lists.{AllByRecursion-filter, length-filter-most}

abbrev pub Entry : Type 0
Entry = Key × Account

abbrev Ascend : List Entry → Type 0
Ascend es = IsStrictlySortedBy key_cmp (keys_of es)

-- ---- accounts that are tested the same are the same
bools : (a b : Bool) → beq a b ≡ true → a ≡ b
bools true true h = refl
bools true false h = absurd (false≢true h)
bools false true h = absurd (false≢true h)
bools false false h = refl

pub same_account-true : (a b : Account) → same_account a b ≡ true → a ≡ b
same_account-true a b h =
    let l = and_parts (a.lamports == b.lamports && same_key a.owner b.owner && beq a.executable b.executable) (pointwise nat_eq a.bytes b.bytes) h in
    let m = and_parts (a.lamports == b.lamports && same_key a.owner b.owner) (beq a.executable b.executable) l.0 in
    let n = and_parts (a.lamports == b.lamports) (same_key a.owner b.owner) m.0 in
    let lamports : a.lamports ≡ b.lamports = eqb-true a.lamports b.lamports n.0 in
    let owner : a.owner ≡ b.owner = same_key-true a.owner b.owner n.1 in
    let executable : a.executable ≡ b.executable = bools a.executable b.executable m.1 in
    let bytes : a.bytes ≡ b.bytes = (bytes_decides a.bytes b.bytes).0 l.1 in
    λ i. record { lamports = lamports i; owner = owner i; executable = executable i; bytes = bytes i }

-- ---- what is taken out
out_twice : (a b : Bool) (x : Option Account) → cond b None (cond a None x) ≡ cond (a || b) None x
out_twice true true x = refl
out_twice true false x = refl
out_twice false true x = refl
out_twice false false x = refl

pub get-without : (ks : List Key) (s : State) (q : Key) → get (without ks s) q ≡ cond (has_key q ks) None (get s q)
get-without [] s q = refl
get-without (k ∷ ks) s q =
    get-without ks (remove s k) q ∙ ap (λ (x : Option Account). cond (has_key q ks) None x) (get-remove_key s k q) ∙ out_twice (same_key q k) (has_key q ks) (get s q)

-- ---- what is put in
in_twice : (a b : Bool) (v x : Option Account) → cond b v (cond a v x) ≡ cond (a || b) v x
in_twice true true v x = refl
in_twice true false v x = refl
in_twice false true v x = refl
in_twice false false v x = refl

kept_more : (a : Account) → 1 ≤ a.lamports → kept a ≡ Some a
kept_more a some = cond-false (a.lamports == 0) None (Some a) (grind (arith, nat_tests))

-- where the key is, what is put there is what another state has there
put_there : (after : State) (b : Bool) (q k : Key) (a : Account) (x : Option Account) → same_key q k ≡ b → get after k ≡ Some a → cond b (Some a) x ≡ cond b (get after q) x
put_there after true q k a x same there = sym there ∙ ap (get after) (sym (same_key-true q k same))
put_there after false q k a x same there = refl

pub get-puts : (after : State) (es : List Entry) (s : State) (q : Key)
    → AllByRecursion (λ e. (get after e.0 ≡ Some e.1) × (1 ≤ e.1.lamports)) es
    → get (puts es s) q ≡ cond (has_key q (keys_of es)) (get after q) (get s q)
get-puts after [] s q all = refl
get-puts after (e ∷ es) s q all =
    get-puts after es (put s e.0 e.1) q all.1
    ∙ ap (λ (x : Option Account). cond (has_key q (keys_of es)) (get after q) x) (get-put_key s e.0 e.1 q
    ∙ ap (λ (x : Option Account). cond (same_key q e.0) x (get s q)) (kept_more e.1 all.0.1)
    ∙ put_there after (same_key q e.0) q e.0 e.1 (get s q) refl all.0.0)
    ∙ in_twice (same_key q e.0) (has_key q (keys_of es)) (get after q) (get s q)

-- ---- entries of a state
less_apart : (k q : Key) → key_cmp k q ≡ Less → same_key q k ≡ false
less_apart k q less = same_key-false q k (λ e. itself (subst (λ (x : Key). key_cmp k x ≡ Less) e less))
  where
    itself : key_cmp k k ≡ Less → ⊥
    itself h = false≢true (sym (ap is_eq h) ∙ same_cmp k k ∙ same_key-self k)

find_at : (q : Key) (e : Entry) (es : List Entry) → find key_cmp q (e ∷ es) ≡ cond (same_key q e.0) (Some e.1) (find key_cmp q es)
find_at q e es = ap (λ (b : Bool). cond b (Some e.1) (find key_cmp q es)) (same_cmp q e.0)

found_behind : (e : Entry) (es some : List Entry)
    → AllByRecursion (λ (y : Key). key_cmp e.0 y ≡ Less) (keys_of some)
    → AllByRecursion (λ d. find key_cmp d.0 es ≡ Some d.1) some
    → AllByRecursion (λ d. find key_cmp d.0 (e ∷ es) ≡ Some d.1) some
found_behind e es [] less all = tt
found_behind e es (d ∷ some) less all = (
  find_at d.0 e es ∙ cond-false (same_key d.0 e.0) (Some e.1) (find key_cmp d.0 es) (less_apart e.0 d.0 less.0) ∙ all.0,
  found_behind e es some less.1 all.1,
)

pub found_each : (es : List Entry) → Ascend es → AllByRecursion (λ e. find key_cmp e.0 es ≡ Some e.1) es
unfolding IsStrictlySortedBy
found_each [] h = tt
found_each (e ∷ es) h = (
  find_at e.0 e es ∙ cond-true (same_key e.0 e.0) (Some e.1) (find key_cmp e.0 es) (same_key-self e.0),
  found_behind e es es h.0 (found_each es h.1),
)

pub all_both : {X : Type 0} (P Q : X → Type 0) (xs : List X) → AllByRecursion P xs → AllByRecursion Q xs → AllByRecursion (λ x. P x × Q x) xs
all_both P Q [] p q = tt
all_both P Q (x ∷ xs) p q = ((p.0, q.0), all_both P Q xs p.1 q.1)

pub all_weaker : {X : Type 0} (P Q : X → Type 0) → ((x : X) → P x → Q x) → (xs : List X) → AllByRecursion P xs → AllByRecursion Q xs
all_weaker P Q so [] h = tt
all_weaker P Q so (x ∷ xs) h = (so x h.0, all_weaker P Q so xs h.1)

less_passed : (k : Key) (p : Entry → Bool) (es : List Entry) → AllByRecursion (λ (y : Key). key_cmp k y ≡ Less) (keys_of es) → AllByRecursion (λ (y : Key). key_cmp k y ≡ Less) (keys_of (filter p es))
less_passed k p [] h = tt
less_passed k p (e ∷ es) h = elim (p e) as
    (λ b. AllByRecursion (λ (y : Key). key_cmp k y ≡ Less) (keys_of (cond b (e ∷ filter p es) (filter p es))))
    [ true ↦ (h.0, less_passed k p es h.1) | false ↦ less_passed k p es h.1 ]

pub ascend_passed : (p : Entry → Bool) (es : List Entry) → Ascend es → Ascend (filter p es)
unfolding IsStrictlySortedBy
ascend_passed p [] h = tt
ascend_passed p (e ∷ es) h = elim (p e) as (λ b. Ascend (cond b (e ∷ filter p es) (filter p es))) [ true ↦ (less_passed e.0 p es h.0, ascend_passed p es h.1) | false ↦ ascend_passed p es h.1 ]

-- an entry that is found and has no key among those that pass does not pass
pub not_passed : (p : Entry → Bool) (es : List Entry) (q : Key) (a : Account) → find key_cmp q es ≡ Some a → has_key q (keys_of (filter p es)) ≡ false → p (q, a) ≡ false
not_passed p [] q a found out = absurd (cc)
not_passed p (e ∷ es) q a found out = by_test (same_key q e.0) refl (sym (find_at q e es) ∙ found) (λ later apart. not_passed p es q a later apart)
  where
    rest_out : (b : Bool) → p e ≡ b → has_key q (keys_of (filter p es)) ≡ false
    rest_out true passes = (or_parts (same_key q e.0) (has_key q (keys_of (filter p es))) (sym (ap (λ (b : Bool). has_key q (keys_of (cond b (e ∷ filter p es) (filter p es)))) passes) ∙ out)).1
    rest_out false passes = sym (ap (λ (b : Bool). has_key q (keys_of (cond b (e ∷ filter p es) (filter p es)))) passes) ∙ out

    here : (b : Bool) → p e ≡ b → same_key q e.0 ≡ true → p e ≡ false
    here true passes same = absurd
        (both_ways (same_key q e.0) (or_parts (same_key q e.0) (has_key q (keys_of (filter p es)))
        (sym (ap (λ (b : Bool). has_key q (keys_of (cond b (e ∷ filter p es) (filter p es)))) passes) ∙ out)).0
        same)
    here false passes same = passes

    whole : q ≡ e.0 → e.1 ≡ a → e ≡ (let x : Entry = (q, a) in x)
    whole k v = λ i. (sym k i, v i)

    by_test : (b : Bool) → same_key q e.0 ≡ b → cond b (Some e.1) (find key_cmp q es) ≡ Some a
        → (find key_cmp q es ≡ Some a → has_key q (keys_of (filter p es)) ≡ false → p (q, a) ≡ false)
        → p (q, a) ≡ false
    by_test true same h later = subst (λ (x : Entry). p x ≡ false) (whole (same_key-true q e.0 same) (same_Some e.1 a h)) (here (p e) refl same)
    by_test false same h later = later h (rest_out (p e) refl)

-- each key of a list has what they all have
pub has_all : (P : Key → Type 0) (ks : List Key) (q : Key) → AllByRecursion P ks → has_key q ks ≡ true → P q
has_all P [] q all there = absurd (false≢true there)
has_all P (k ∷ ks) q all there =
    ⊎_elim (λ same. subst P (sym (same_key-true q k same)) all.0) (λ more. has_all P ks q all.1 more) (or_cases (same_key q k) (has_key q ks) there)

pub new_ascends : (before after : State) → Ascend (left_by before after)
new_ascends before after = ascend_passed (λ e. not (is_kept (get before e.0) e.1)) (entries after) (sorted-entries key_cmp after)

pub new_entries : (before after : State) → entries (from_entries (left_by before after)) ≡ left_by before after
new_entries before after = entries-from_entries key_cmp_total key_cmp_exact (left_by before after) (new_ascends before after)

-- no more accounts are new than there are
pub fewer_accounts : (before after : State) → len (from_entries (left_by before after)) ≤ len after
fewer_accounts before after =
    omega (
      arith,
      len-entries {R = key_cmp} (from_entries (left_by before after)),
      ap length
          (new_entries before after),
      length-filter-most (λ (e : Entry). not (is_kept (get before e.0) e.1))
          (entries after),
      len-entries after,
    )

pub few_gone : (before after : State) → length (gone_by before after) ≤ len before
few_gone before after =
    omega (arith, length_keys (filter (λ (e : Entry). is_none (get after e.0)) (entries before)), length-filter-most (λ (e : Entry). is_none (get after e.0)) (entries before), len-entries before)
  where
    length_keys : (es : List Entry) → length (map (λ (e : Entry). e.0) es) ≡ length es
    length_keys [] = refl
    length_keys (e ∷ es) = ap suc (length_keys es)

-- ---- what is put in was not there
abbrev Absent : State → List Entry → Type 0
Absent s es = AllByRecursion (λ e. get s e.0 ≡ None) es

key_there : (es : List Entry) (k : Key) → has_key k (k ∷ keys_of es) ≡ true
key_there es k = or_left (same_key k k) (has_key k (keys_of es)) (same_key-self k)

-- once all keys are taken out none is there
absent_without : (all : List Key) (s : State) (es : List Entry) → ((k : Key) → has_key k (keys_of es) ≡ true → has_key k all ≡ true) → AllByRecursion (λ e. get (without all s) e.0 ≡ None) es
absent_without all s [] within = tt
absent_without all s (e ∷ es) within = (
  get-without all s e.0 ∙ cond-true (has_key e.0 all) None (get s e.0) (within e.0 (key_there es e.0)),
  absent_without all s es (λ k h. within k (or_right (same_key k e.0) (has_key k (keys_of es)) h)),
)

absent_then : (s : State) (e : Entry) (es : List Entry) → AllByRecursion (λ (y : Key). key_cmp e.0 y ≡ Less) (keys_of es) → Absent s es → Absent (put s e.0 e.1) es
absent_then s e [] less h = tt
absent_then s e (d ∷ es) less h = (
  get-put_key s e.0 e.1 d.0 ∙ cond-false (same_key d.0 e.0) (kept e.1) (get s d.0) (less_apart e.0 d.0 less.0) ∙ h.0,
  absent_then s e es less.1 h.1,
)

sum_put_absent : (s : State) (k : Key) (a : Account) → get s k ≡ None → sum (put s k a) ≡ sum s + a.lamports
sum_put_absent s k a none =
    let empty : (at s k).lamports ≡ 0 = ap (λ (x : Option Account). (unwrap_or x empty_account).lamports) none in
    omega (arith, sum-put s k a, empty)

sum_puts : (es : List Entry) (s : State) → Ascend es → Absent s es → sum (puts es s) ≡ sum s + lamports_of es
unfolding IsStrictlySortedBy
sum_puts [] s h absent = omega arith
sum_puts (e ∷ es) s h absent =
    let rest = sum_puts es (put s e.0 e.1) h.1 (absent_then s e es h.0 absent.1) in
    let one = sum_put_absent s e.0 e.1 absent.0 in
    let more = sum_by-cons (λ (d : Entry). d.1.lamports) e es in
    omega (arith, rest, one, more)

-- so there are never more lamports than in the end
fits_each : (es : List Entry) (s : State) → Ascend es → Absent s es → sum (puts es s) ≤ 2 ^ 64 - 1 → with_accounts es s ≡ Some (puts es s)
unfolding IsStrictlySortedBy
fits_each [] s h absent fits = refl
fits_each (e ∷ es) s h absent fits =
    let next = absent_then s e es h.0 absent.1 in
    let rest = sum_puts es (put s e.0 e.1) h.1 next in
    let one = sum_put_absent s e.0 e.1 absent.0 in
    let test : nat_le (sum s + e.1.lamports) (2 ^ 64 - 1) ≡ true = le-leb (sum s + e.1.lamports) (2 ^ 64 - 1) (omega (arith, rest, one, fits)) in
    cond-true (nat_le (sum s + e.1.lamports) (2 ^ 64 - 1)) (with_accounts es (put s e.0 e.1)) None test ∙ fits_each es (put s e.0 e.1) h.1 next fits

-- the entries of a state are found in it
found_in : (s : State) → AllByRecursion (λ e. get s e.0 ≡ Some e.1) (entries s)
found_in s = all_weaker (λ e. find key_cmp e.0 (entries s) ≡ Some e.1) (λ e. get s e.0 ≡ Some e.1) (λ e h. get-entries s e.0 ∙ h) (entries s) (found_each (entries s) (sorted-entries key_cmp s))

held_in : (s : State) → IsState s → AllByRecursion (λ e. (get s e.0 ≡ Some e.1) × (1 ≤ e.1.lamports)) (entries s)
held_in s is = all_both (λ e. get s e.0 ≡ Some e.1) (λ e. 1 ≤ e.1.lamports) (entries s) (found_in s) (all_weaker (λ e. IsHeld e.1) (λ e. 1 ≤ e.1.lamports) (λ e h. h.0) (entries s) is.held)

-- ---- accounts that are put in over those that are there
over : (b : Bool) (a x : Option Account) → cond b a (cond b None x) ≡ cond b a x
over true a x = refl
over false a x = refl

puts_over : (s t : State) → IsState t → puts (entries t) (without (keys_of (entries t)) s) ≡ puts (entries t) s
puts_over s t is = same_state (puts (entries t) (without (keys_of (entries t)) s)) (puts (entries t) s) (λ q.
    get-puts t (entries t) (without (keys_of (entries t)) s) q (held_in t is)
    ∙ ap (λ (x : Option Account). cond (has_key q (keys_of (entries t))) (get t q) x) (get-without (keys_of (entries t)) s q)
    ∙ over (has_key q (keys_of (entries t))) (get t q) (get s q) ∙ sym (get-puts t (entries t) s q (held_in t is)))

pub sum-puts-le : (es : List Entry) (s : State) → sum (puts es s) ≤ sum s + lamports_of es
sum-puts-le [] s = omega arith
sum-puts-le (e ∷ es) s = omega (arith, sum-puts-le es (put s e.0 e.1), sum-put-le s e.0 e.1, sum_by-cons (λ (d : Entry). d.1.lamports) e es)

-- it is the same as taking their keys out first
pub over_is_with : (s t : State) → IsState t → sum s + sum t ≤ 2 ^ 64 - 1 → with_accounts (entries t) (without (keys_of (entries t)) s) ≡ Some (puts (entries t) s)
over_is_with s t is fits =
    let few : sum (puts (entries t) s) ≤ 2 ^ 64 - 1 = omega (arith, sum-puts-le (entries t) s, fits) in
    fits_each (entries t) (without (keys_of (entries t)) s) (sorted-entries key_cmp t)
    (absent_without (keys_of (entries t)) s (entries t) (λ k h. h))
    (subst (λ (u : State). sum u ≤ 2 ^ 64 - 1) (sym (puts_over s t is)) few)
    ∙ ap (λ (u : State). Some u) (puts_over s t is)

-- ---- accounts that are put in where there are none
not_there : (q : Key) (es : List Entry) → has_key q (keys_of es) ≡ false → find key_cmp q es ≡ None
not_there q [] out = refl
not_there q (e ∷ es) out =
    let parts = or_parts (same_key q e.0) (has_key q (keys_of es)) out in
    find_at q e es ∙ ap (λ (b : Bool). cond b (Some e.1) (find key_cmp q es)) parts.0 ∙ not_there q es parts.1

-- all accounts of a state give it
pub puts_all : (s : State) → IsState s → puts (entries s) empty ≡ s
puts_all s is = same_state (puts (entries s) empty) s (λ q. get-puts s (entries s) empty q (held_in s is) ∙ by_test q (has_key q (keys_of (entries s))) refl)
  where
    by_test : (q : Key) (there : Bool) → has_key q (keys_of (entries s)) ≡ there → cond there (get s q) (get empty q) ≡ get s q
    by_test q true here = refl
    by_test q false out = get-entries empty q ∙ ap (λ (es : List Entry). find key_cmp q es) entries-empty ∙ sym (get-entries s q ∙ not_there q (entries s) out)

-- ---- the law
module _ (before after : State) (was : IsState before) (is : IsState after) where
  abbrev changed : Entry → Bool
  changed e = not (is_kept (get before e.0) e.1)

  abbrev gone_test : Entry → Bool
  gone_test e = is_none (get after e.0)

  abbrev new : List Entry
  new = left_by before after

  abbrev gone : List Key
  gone = gone_by before after

  -- the entries that are left are those of the second state
  new_found : AllByRecursion (λ e. (get after e.0 ≡ Some e.1) × (1 ≤ e.1.lamports)) new
  new_found = AllByRecursion-filter (λ e. (get after e.0 ≡ Some e.1) × (1 ≤ e.1.lamports)) changed (entries after) (held_in after is)

  gone_absent : AllByRecursion (λ k. get after k ≡ None) gone
  gone_absent = absent (entries before)
    where
      none : (x : Option Account) → is_none x ≡ true → x ≡ None
      none None h = refl
      none (Some a) h = absurd (false≢true h)

      by_test : (e : Entry) (es : List Entry) (b : Bool) → gone_test e ≡ b
          → AllByRecursion (λ k. get after k ≡ None) (map (λ (d : Entry). d.0) (filter gone_test es))
          → AllByRecursion (λ k. get after k ≡ None)
          (map (λ (d : Entry). d.0) (cond b (e ∷ filter gone_test es) (filter gone_test es)))
      by_test e es true h more = (none (get after e.0) h, more)
      by_test e es false h more = more

      absent : (es : List Entry) → AllByRecursion (λ k. get after k ≡ None) (map (λ (e : Entry). e.0) (filter gone_test es))
      absent [] = tt
      absent (e ∷ es) = by_test e es (gone_test e) refl (absent es)

  -- what is neither new nor gone is as it was
  stays : (q : Key) → has_key q (keys_of new) ≡ false → has_key q gone ≡ false → get before q ≡ get after q
  stays q not_new not_gone = by_after (get after q) refl
    where
      unchanged : (x : Option Account) (a : Account) → is_kept x a ≡ true → x ≡ Some a
      unchanged None a h = absurd (false≢true h)
      unchanged (Some b) a h = ap (λ (v : Account). Some v) (same_account-true b a h)

      by_before : (x : Option Account) → get before q ≡ x → get after q ≡ None → x ≡ None
      by_before None h none = refl
      by_before (Some b) h none =
          absurd (both_ways (is_none (get after q)) (not_passed gone_test (entries before) q b (sym (get-entries before q) ∙ h) not_gone) (ap (λ (x : Option Account). is_none x) none))

      by_after : (x : Option Account) → get after q ≡ x → get before q ≡ get after q
      by_after None h = by_before (get before q) refl h ∙ sym h
      by_after (Some a) h =
          unchanged (get before q) a (not-false (is_kept (get before q) a) (not_passed changed (entries after) q a (sym (get-entries after q) ∙ h) not_new)) ∙ sym h

  -- the state without what changes
  abbrev base : State
  base = without (keys_of new) (without gone before)

  whole : (a b : Bool) (q : Key) → has_key q (keys_of new) ≡ a → has_key q gone ≡ b → cond a (get after q) (cond a None (cond b None (get before q))) ≡ get after q
  whole true b q n g = refl
  whole false true q n g = sym (has_all (λ k. get after k ≡ None) gone q gone_absent g)
  whole false false q n g = stays q n g

  pub puts_back : puts new base ≡ after
  puts_back = same_state (puts new base) after (λ q.
      get-puts after new base q new_found
      ∙ ap (λ (x : Option Account). cond (has_key q (keys_of new)) (get after q) x)
      (get-without (keys_of new) (without gone before) q
      ∙ ap (λ (x : Option Account). cond (has_key q (keys_of new)) None x) (get-without gone before q))
      ∙ whole (has_key q (keys_of new)) (has_key q gone) q refl refl)

  pub changes_back : with_accounts new base ≡ Some after
  changes_back =
      fits_each new base (new_ascends before after)
      (absent_without (keys_of new) (without gone before) new (λ k h. h))
      (subst (λ (s : State). sum s ≤ 2 ^ 64 - 1) (sym puts_back) is.fits)
      ∙ ap (λ (s : State). Some s) puts_back
