-- States from lists of entries whose keys ascend.
use Rattle.std.proofs.Common.{◌≡◌, ◌+◌, ◌-◌, ◌^◌, ◌≤◌, ◌<◌, ℕ, suc, List, [], ◌∷◌, ◌++◌, length, take, Option, Some, None, Bool, true, false, not, inl, inr, Result, Ok, Err, lit≤, refl, sym, ap, subst, ◌∙◌, append_assoc, arith}
use Rattle.std.specs.Prelude.{map as each, slice_get, nat_eq, nat_lt, option_map, All, MatchBool}
use Rattle.std.specs.List.{AllByRecursion, enumerate_from, filter_map, cons_option}
use Rattle.std.specs.List.Sorted.{IsStrictlySortedBy}
use Rattle.std.specs.Map.{keys_of}
use Rattle.std.specs.FinMap.{from_entries, len-entries}
use Rattle.std.specs.BTreeMap.{insert_entry}
use Rattle.std.specs.Ordering.{is_lt, match_ordering, ordering_reverse}
use Rattle.std.specs.declared.cmp.Ordering.{Ordering}
use Rattle.std.specs.declared.cmp.Ordering.TheVariants.{Less, Greater}
use Rattle.std.proofs.Math.ListN.{get_or}
use Rattle.std.proofs.Math.Seq.{get_or-append_seam}
use Rattle.std.proofs.lemmas.Bool.{both_ways, false_from_ne_true, not-false, not-true}
use Rattle.std.proofs.lemmas.Bool.Decides.{nat_tests}
use Rattle.std.proofs.lemmas.Option.{same_Some}
use Rattle.std.proofs.lemmas.List.Sums.{sum_by_push, sum_by-append}
use Rattle.std.proofs.lemmas.List.Elements.{All-from_recursion, recursion_from_All, All-push}
use Rattle.std.proofs.lemmas.List.{append-nil, length-append, length-map, map-append}
use Rattle.spec_base.specs.Reading.{first_or}
use Rattle.spec_base.proofs.Binding.{chosen}
use Rattle.spec_base.proofs.Orders.{less}
use Rattle.sol_base.specs.declared.key.Key.{Key}
use Rattle.sol_base.specs.declared.account.Account.{Account}
use Rattle.sol_base.specs.Keys.{key_cmp}
use Rattle.sol_base.proofs.KeyLaws.{key_cmp_exact, key_cmp_total}
use Rattle.account_store.specs.declared.sorted.KeyedAccount.{KeyedAccount}
use Rattle.account_store.specs.declared.sorted.StoreFault.{StoreFault}
use Rattle.account_store.specs.declared.sorted.StoreFault.TheVariants.{OutOfOrder, Empty, SupplyTooLarge, OutOfMemory}
use Rattle.account_store.specs.State.{State, is_above, entries, len, lamports_of, IsHeld, IsState}
use Rattle.account_store.specs.Sorted.{is_store_memory, IsFaultOr, entry_of, entries_of, keyed, Ascend, AreOfState, IsWrongAfter, IsRefused, last_key, entry_fault, entry_faults, state_of}
use Rattle.account_store.proofs.EntryLists.{sorted-entries, entries-from_entries, from_entries-entries}

abbrev pub Entry : Type 0
Entry = Key × Account

some_is_not_none : {X : Type 0} (x : X) → (let o : Option X = Some x in o) ≡ None → ⊥
some_is_not_none x e = absurd (cc)

-- what an entry tells that nothing is wrong with
pub record IsFine (before : List Entry) (e : Entry) : Type 0 where
  pub above : is_above (last_key before) e.0 ≡ true
  pub some : 1 ≤ e.1.lamports
  pub fits : lamports_of before + e.1.lamports ≤ 2 ^ 64 - 1

pub IsFine-from_none : (before : List Entry) (e : Entry) → entry_fault before e ≡ None → IsFine before e
IsFine-from_none before e h =
    elim (chosen (not (is_above (last_key before) e.0)) (Some (OutOfOrder (length before))) _ None h) [
      | inl p ↦ absurd (some_is_not_none _ p.1)
      | inr p ↦ elim (chosen (nat_eq e.1.lamports 0) (Some (Empty (length before))) _ None p.1) [
        | inl q ↦ absurd (some_is_not_none _ q.1)
        | inr q ↦ elim (chosen (nat_lt (2 ^ 64 - 1) (lamports_of before + e.1.lamports)) (Some SupplyTooLarge) None None q.1) [
          | inl r ↦ absurd (some_is_not_none _ r.1)
          | inr r ↦ record {
            above = not-false (is_above (last_key before) e.0) p.0;
            some = let t = q.0 in grind (arith, nat_tests);
            fits = let t = r.0 in grind (arith, nat_tests);
          }
        ]
      ]
    ]

-- and the way back
none-from_IsFine : (before : List Entry) (e : Entry) → IsFine before e → entry_fault before e ≡ None
none-from_IsFine before e is =
    let more : nat_eq e.1.lamports 0 ≡ false = let t = is.some in grind (arith, nat_tests) in
    let room : nat_lt (2 ^ 64 - 1) (lamports_of before + e.1.lamports) ≡ false = let t = is.fits in grind (arith, nat_tests) in
    rw (is.above, more, room) refl

last_key-cons : (e f : Entry) (es : List Entry) → last_key (e ∷ f ∷ es) ≡ last_key (f ∷ es)
last_key-cons e f es =
    let all : length (e ∷ f ∷ es) - 1 ≡ suc (length es) = omega arith in
    let tail : length es ≡ length (f ∷ es) - 1 = omega arith in
    ap (λ n. option_map (λ (d : Entry). d.0) (slice_get (e ∷ f ∷ es) n)) all
    ∙ ap (λ n. option_map (λ (d : Entry). d.0) (slice_get (f ∷ es) n)) tail

-- a key above the last is above all, where the keys ascend
pub below_last : (es : List Entry) (k : Key) → Ascend es → is_above (last_key es) k ≡ true → AllByRecursion (λ (q : Key). key_cmp q k ≡ Less) (keys_of es)
unfolding IsStrictlySortedBy
below_last [] k ascend above = tt
below_last (e ∷ []) k ascend above = (less (key_cmp e.0 k) above, tt)
below_last (e ∷ f ∷ es) k ascend above =
    let later = below_last (f ∷ es) k ascend.1 (subst (λ (o : Option Key). is_above o k ≡ true) (last_key-cons e f es) above) in
    (key_cmp_total.trans e.0 f.0 k ascend.0.0 later.0, later)

last_above : (before : List Entry) (k : Key) → AllByRecursion (λ (q : Key). key_cmp q k ≡ Less) (keys_of before) → is_above (last_key before) k ≡ true
last_above [] k below = refl
last_above (e ∷ []) k below = ap is_lt below.0
last_above (e ∷ f ∷ es) k below = ap (λ (o : Option Key). is_above o k) (last_key-cons e f es) ∙ last_above (f ∷ es) k below.1

keys_pushed : {X : Type 0} (P : Key → Type 0) (es : List (Key × X)) (e : Key × X) → AllByRecursion P (keys_of es) → P e.0 → AllByRecursion P (keys_of (es ++ e ∷ []))
keys_pushed P [] e all one = (one, tt)
keys_pushed P (d ∷ es) e all one = (all.0, keys_pushed P es e all.1 one)

-- keys that ascend and one more above them
pub Ascend-push : {X : Type 0} (es : List (Key × X)) (e : Key × X) → IsStrictlySortedBy key_cmp (keys_of es)
    → AllByRecursion (λ (q : Key). key_cmp q e.0 ≡ Less) (keys_of es)
    → IsStrictlySortedBy key_cmp (keys_of (es ++ e ∷ []))
unfolding IsStrictlySortedBy
Ascend-push [] e ascend below = (tt, tt)
Ascend-push (d ∷ es) e ascend below = (keys_pushed (λ (q : Key). key_cmp d.0 q ≡ Less) es e ascend.0 below.0, Ascend-push es e ascend.1 below.1)

Ascend-above : (es : List Entry) (e : Entry) → Ascend es → is_above (last_key es) e.0 ≡ true → Ascend (es ++ e ∷ [])
Ascend-above es e ascend above = Ascend-push es e ascend (below_last es e.0 ascend above)

-- each entry of a list stands above those before it
below_entry : (before after : List Entry) (e : Entry) → Ascend (before ++ e ∷ after) → AllByRecursion (λ (q : Key). key_cmp q e.0 ≡ Less) (keys_of before)
unfolding IsStrictlySortedBy
below_entry [] after e ascend = tt
below_entry (d ∷ before) after e ascend = (within before after e d.0 ascend.0, below_entry before after e ascend.1)
  where
    within : (front back : List Entry) (f : Entry) (k : Key) → AllByRecursion (λ (q : Key). key_cmp k q ≡ Less) (keys_of (front ++ f ∷ back)) → key_cmp k f.0 ≡ Less
    within [] back f k all = all.0
    within (g ∷ front) back f k all = within front back f k all.1

above-from_Ascend : (es : List Entry) (e : Entry) → Ascend (es ++ e ∷ []) → is_above (last_key es) e.0 ≡ true
above-from_Ascend es e ascend = last_above es e.0 (below_entry es [] e ascend)

-- what is wrong first, entry by entry, after those before them
abbrev first_of : Option StoreFault → Option StoreFault → Option StoreFault
first_of None later = later
first_of (Some fault) later = Some fault

abbrev pub fault_after : List Entry → List Entry → Option StoreFault
fault_after before [] = None
fault_after before (e ∷ es) = first_of (entry_fault before e) (fault_after (before ++ e ∷ []) es)

-- the faults of entries from a place of the whole list on
abbrev faults_from : List Entry → ℕ → List Entry → List StoreFault
faults_from whole n es = filter_map (λ (at, e). entry_fault (take at whole) e) (enumerate_from n es)

take_before : (before es : List Entry) → take (length before) (before ++ es) ≡ before
take_before [] es = refl
take_before (e ∷ before) es = ap (λ (l : List Entry). e ∷ l) (take_before before es)

first_cons : (o : Option StoreFault) (faults : List StoreFault) → slice_get (cons_option o faults) 0 ≡ first_of o (slice_get faults 0)
first_cons None faults = refl
first_cons (Some fault) faults = refl

-- the first of the faults of all entries
first_fault-from : (before es whole : List Entry) (n : ℕ) → whole ≡ before ++ es → n ≡ length before → slice_get (faults_from whole n es) 0 ≡ fault_after before es
first_fault-from before [] whole n is at = refl
first_fault-from before (e ∷ es) whole n is at =
    let here : take n whole ≡ before = ap (λ m. take m whole) at ∙ ap (take (length before)) is ∙ take_before before (e ∷ es) in
    let next : n + 1 ≡ length (before ++ e ∷ []) = omega (arith, length-append before (e ∷ []), at) in
    let later = first_fault-from (before ++ e ∷ []) es whole (n + 1) (is ∙ sym (append_assoc before (e ∷ []) es)) next in
    first_cons (entry_fault (take n whole) e) (faults_from whole (n + 1) es)
    ∙ ap (λ (l : List Entry). first_of (entry_fault l e) (slice_get (faults_from whole (n + 1) es) 0)) here
    ∙ ap (first_of (entry_fault before e)) later

abbrev pub first_fault : List Entry → Option StoreFault
first_fault es = slice_get (entry_faults es) 0

pub first_fault-is : (es : List Entry) → first_fault es ≡ fault_after [] es
first_fault-is es = first_fault-from [] es es 0 refl refl

first_none : (a b : Option StoreFault) → first_of a b ≡ None → (a ≡ None) × (b ≡ None)
first_none None b h = (refl, h)
first_none (Some fault) b h = absurd (cc)

AreOfState-nil : AreOfState []
unfolding IsStrictlySortedBy
AreOfState-nil = record { ascend = tt; some = All-from_recursion (λ (e : Entry). 1 ≤ e.1.lamports) [] tt; fits = lit≤ tt }

-- one more entry with which nothing is wrong
AreOfState-push : (before : List Entry) (e : Entry) → AreOfState before → entry_fault before e ≡ None → AreOfState (before ++ e ∷ [])
AreOfState-push before e are none =
    let fine = IsFine-from_none before e none in
    record {
      ascend = Ascend-above before e are.ascend fine.above;
      some = All-push (λ (d : Entry). 1 ≤ d.1.lamports) before e are.some fine.some;
      fits = rw (sum_by_push (λ (d : Entry). d.1.lamports) before e) fine.fits;
    }

-- nothing is wrong, entry by entry: all are those of a state
AreOfState-after : (before es : List Entry) → AreOfState before → fault_after before es ≡ None → AreOfState (before ++ es)
AreOfState-after before [] are none = subst AreOfState (sym (append-nil before)) are
AreOfState-after before (e ∷ es) are none =
    let n = first_none (entry_fault before e) (fault_after (before ++ e ∷ []) es) none in
    subst AreOfState (append_assoc before (e ∷ []) es) (AreOfState-after (before ++ e ∷ []) es (AreOfState-push before e are n.0) n.1)

pub AreOfState-from_none : (es : List Entry) → first_fault es ≡ None → AreOfState es
AreOfState-from_none es none = AreOfState-after [] es AreOfState-nil (sym (first_fault-is es) ∙ none)

all_front : (P : Key → Type 0) (front back : List Entry) → AllByRecursion P (keys_of (front ++ back)) → AllByRecursion P (keys_of front)
all_front P [] back all = tt
all_front P (d ∷ front) back all = (all.0, all_front P front back all.1)

Ascend-front : (front back : List Entry) → Ascend (front ++ back) → Ascend front
unfolding IsStrictlySortedBy
Ascend-front [] back ascend = tt
Ascend-front (d ∷ front) back ascend = (all_front (λ (q : Key). key_cmp d.0 q ≡ Less) front back ascend.0, Ascend-front front back ascend.1)

-- the front of the entries of a state
AreOfState-front : (before es : List Entry) → AreOfState (before ++ es) → AreOfState before
AreOfState-front before es are = record {
  ascend = Ascend-front before es are.ascend;
  some = All-from_recursion (λ (d : Entry). 1 ≤ d.1.lamports) before (some_front before es (recursion_from_All (λ (d : Entry). 1 ≤ d.1.lamports) (before ++ es) are.some));
  fits = let t = are.fits in let n = sum_by-append (λ (d : Entry). d.1.lamports) before es in omega (arith, t, n);
}
  where
    some_front : (front back : List Entry) → AllByRecursion (λ (d : Entry). 1 ≤ d.1.lamports) (front ++ back) → AllByRecursion (λ (d : Entry). 1 ≤ d.1.lamports) front
    some_front [] back all = tt
    some_front (d ∷ front) back all = (all.0, some_front front back all.1)

-- the last entry of a state is one with which nothing is wrong
none-from_AreOfState : (before : List Entry) (e : Entry) → AreOfState (before ++ e ∷ []) → entry_fault before e ≡ None
none-from_AreOfState before e are = none-from_IsFine before e (record {
  above = above-from_Ascend before e are.ascend;
  some = some_last before (recursion_from_All (λ (d : Entry). 1 ≤ d.1.lamports) (before ++ e ∷ []) are.some);
  fits = subst (λ n. n ≤ 2 ^ 64 - 1) (sum_by_push (λ (d : Entry). d.1.lamports) before e) are.fits;
})
  where
    some_last : (front : List Entry) → AllByRecursion (λ (d : Entry). 1 ≤ d.1.lamports) (front ++ e ∷ []) → 1 ≤ e.1.lamports
    some_last [] all = all.0
    some_last (d ∷ front) all = some_last front all.1

-- with the entries of a state in front nothing is wrong up to there
fault_after-on : (before es rest : List Entry) → AreOfState (before ++ es) → fault_after before (es ++ rest) ≡ fault_after (before ++ es) rest
fault_after-on before [] rest are = ap (λ (l : List Entry). fault_after l rest) (sym (append-nil before))
fault_after-on before (e ∷ es) rest are =
    let whole : (before ++ e ∷ []) ++ es ≡ before ++ e ∷ es = append_assoc before (e ∷ []) es in
    let all : AreOfState ((before ++ e ∷ []) ++ es) = subst AreOfState (sym whole) are in
    let none = none-from_AreOfState before e (AreOfState-front (before ++ e ∷ []) es all) in
    ap (λ (o : Option StoreFault). first_of o (fault_after (before ++ e ∷ []) (es ++ rest))) none
    ∙ fault_after-on (before ++ e ∷ []) es rest all
    ∙ ap (λ (l : List Entry). fault_after l rest) whole

pub none-from_state : (es : List Entry) → AreOfState es → first_fault es ≡ None
none-from_state es are = first_fault-is es ∙ ap (fault_after []) (sym (append-nil es)) ∙ fault_after-on [] es [] are

-- what is wrong with an entry, in the words of the rule
wrong-from_fault : (before : List Entry) (e : Entry) (fault : StoreFault) → AreOfState before → entry_fault before e ≡ Some fault → IsWrongAfter before e fault
wrong-from_fault before e fault are h =
    elim (chosen (not (is_above (last_key before) e.0)) (Some (OutOfOrder (length before))) _ (Some fault) h) [
      | inl p ↦ subst (IsWrongAfter before e) (same_Some _ fault p.1) (refl, λ ascend. both_ways _ (not-true (is_above (last_key before) e.0) p.0) (above-from_Ascend before e ascend))
      | inr p ↦
          let ascend = Ascend-above before e are.ascend (not-false (is_above (last_key before) e.0) p.0) in
          elim (chosen (nat_eq e.1.lamports 0) (Some (Empty (length before))) _ (Some fault) p.1) [
            | inl q ↦ subst (IsWrongAfter before e) (same_Some _ fault q.1) (refl, ascend, (let t = q.0 in grind (arith, nat_tests)))
            | inr q ↦ elim (chosen (nat_lt (2 ^ 64 - 1) (lamports_of before + e.1.lamports)) (Some SupplyTooLarge) None (Some fault) q.1) [
              | inl r ↦ subst (IsWrongAfter before e) (same_Some _ fault r.1) (
                ascend,
                (let t = q.0 in grind (arith, nat_tests)),
                rw
                    (sum_by_push (λ (d : Entry). d.1.lamports) before e)
                    (let t = r.0 in grind (arith, nat_tests)),
              )
              | inr r ↦ absurd (some_is_not_none _ (sym r.1))
            ]
          ]
    ]

-- and the way back
fault-from_wrong : (before : List Entry) (e : Entry) (fault : StoreFault) → AreOfState before → IsWrongAfter before e fault → entry_fault before e ≡ Some fault
fault-from_wrong before e (OutOfOrder at) are wrong =
    let low : is_above (last_key before) e.0 ≡ false = false_from_ne_true _ (λ above. wrong.1 (Ascend-above before e are.ascend above)) in
    rw (low, wrong.0) refl
fault-from_wrong before e (Empty at) are wrong =
    let above = above-from_Ascend before e wrong.1 in
    rw (above, wrong.2, wrong.0) refl
fault-from_wrong before e SupplyTooLarge are wrong =
    let above = above-from_Ascend before e wrong.0 in
    let more : nat_eq e.1.lamports 0 ≡ false = let t = wrong.1 in grind (arith, nat_tests) in
    let all : 2 ^ 64 ≤ lamports_of before + e.1.lamports = subst (λ n. 2 ^ 64 ≤ n) (sum_by_push (λ (d : Entry). d.1.lamports) before e) wrong.2 in
    let high : nat_lt (2 ^ 64 - 1) (lamports_of before + e.1.lamports) ≡ true = grind (arith, nat_tests) in
    rw (above, more, high) refl
fault-from_wrong before e OutOfMemory are wrong = absurd wrong

refused-after : (before es : List Entry) (fault : StoreFault) → AreOfState before → fault_after before es ≡ Some fault → IsRefused (before ++ es) fault
refused-after before [] fault are h = absurd (some_is_not_none fault (sym h))
refused-after before (e ∷ es) fault are h = by_case (entry_fault before e) refl h (λ none later. refused-after (before ++ e ∷ []) es fault (AreOfState-push before e are none) later)
  where
    by_case : (o : Option StoreFault) → entry_fault before e ≡ o → first_of o (fault_after (before ++ e ∷ []) es) ≡ Some fault
        → (entry_fault before e ≡ None → fault_after (before ++ e ∷ []) es ≡ Some fault → IsRefused ((before ++ e ∷ []) ++ es) fault) → IsRefused (before ++ e ∷ es) fault
    by_case None none later on = subst (λ (l : List Entry). IsRefused l fault) (append_assoc before (e ∷ []) es) (on none later)
    by_case (Some found) some g on = record { before = before; entry = e; after = es; split = refl; fine = are; wrong = wrong-from_fault before e fault are (some ∙ g) }

-- the first fault is the refusal in the words of the rule
pub refused-from_fault : (es : List Entry) (fault : StoreFault) → first_fault es ≡ Some fault → IsRefused es fault
refused-from_fault es fault h = refused-after [] es fault AreOfState-nil (sym (first_fault-is es) ∙ h)

pub fault-from_refused : (es : List Entry) (fault : StoreFault) → IsRefused es fault → first_fault es ≡ Some fault
fault-from_refused es fault r =
    first_fault-is es ∙ ap (fault_after []) r.split ∙ fault_after-on [] r.before (r.entry ∷ r.after) r.fine
    ∙ ap (λ (o : Option StoreFault). first_of o (fault_after (r.before ++ r.entry ∷ []) r.after)) (fault-from_wrong r.before r.entry fault r.fine r.wrong)

-- the first of the faults is the answer, and the value where there is none
first_or-none : {A : Type 0} (faults : List StoreFault) (answer : Result A StoreFault) → slice_get faults 0 ≡ None → first_or faults answer ≡ answer
first_or-none [] answer none = refl
first_or-none (fault ∷ faults) answer none = absurd (some_is_not_none fault none)

first_or-some : {A : Type 0} (faults : List StoreFault) (answer : Result A StoreFault) (fault : StoreFault) → slice_get faults 0 ≡ Some fault → first_or faults answer ≡ Err fault
first_or-some [] answer fault some = absurd (some_is_not_none fault (sym some))
first_or-some {A = A} (found ∷ faults) answer fault some = ap (λ (f : StoreFault). let r : Result A StoreFault = Err f in r) (same_Some found fault some)

first_or-ok : {A : Type 0} (faults : List StoreFault) (x y : A) → first_or faults (Ok x) ≡ Ok y → (slice_get faults 0 ≡ None) × (x ≡ y)
first_or-ok [] x y h = (refl, cc)
first_or-ok (found ∷ faults) x y h = absurd (cc)

first_or-err : {A : Type 0} (faults : List StoreFault) (x : A) (fault : StoreFault) → first_or faults (Ok x) ≡ Err fault → slice_get faults 0 ≡ Some fault
first_or-err [] x fault h = absurd (cc)
first_or-err (found ∷ faults) x fault h = cc

-- which state a list gives: that of its entries
pub state_of-ok : (list : List KeyedAccount) (s : State) → state_of list ≡ Ok s → AreOfState (entries_of list) × (entries s ≡ entries_of list)
state_of-ok list s h =
    let es = entries_of list in
    let u = first_or-ok (entry_faults es) (from_entries {R = key_cmp} es) s h in
    let are = AreOfState-from_none es u.0 in
    (are, ap entries (sym u.1) ∙ entries-from_entries key_cmp_total key_cmp_exact es are.ascend)

pub state_of-none : (list : List KeyedAccount) (s : State) → first_fault (entries_of list) ≡ None → entries s ≡ entries_of list → state_of list ≡ Ok s
state_of-none list s none same =
    first_or-none (entry_faults (entries_of list)) (Ok (from_entries {R = key_cmp} (entries_of list))) none
    ∙ ap (λ (l : List Entry). let r : Result State StoreFault = Ok (from_entries l) in r) (sym same)
    ∙ ap (λ (t : State). let r : Result State StoreFault = Ok t in r) (from_entries-entries key_cmp_total key_cmp_exact s)

pub state_of-is : (list : List KeyedAccount) (s : State) → AreOfState (entries_of list) → entries s ≡ entries_of list → state_of list ≡ Ok s
state_of-is list s are same = state_of-none list s (none-from_state (entries_of list) are) same

-- and which refusal
pub state_of-err : (list : List KeyedAccount) (fault : StoreFault) → state_of list ≡ Err fault → IsRefused (entries_of list) fault
state_of-err list fault h = refused-from_fault (entries_of list) fault (first_or-err (entry_faults (entries_of list)) (from_entries {R = key_cmp} (entries_of list)) fault h)

pub state_of-refused : (list : List KeyedAccount) (fault : StoreFault) → IsRefused (entries_of list) fault → state_of list ≡ Err fault
state_of-refused list fault r = first_or-some (entry_faults (entries_of list)) (Ok (from_entries {R = key_cmp} (entries_of list))) fault (fault-from_refused (entries_of list) fault r)

entries_of-keyed : (es : List Entry) → entries_of (each keyed es) ≡ es
entries_of-keyed [] = refl
entries_of-keyed (e ∷ es) = ap (λ (l : List Entry). e ∷ l) (entries_of-keyed es)

-- a state is read again from its entries
pub state_of-entries : (s : State) → IsState s → state_of (each keyed (entries s)) ≡ Ok s
state_of-entries s is =
    let same : entries_of (each keyed (entries s)) ≡ entries s = entries_of-keyed (entries s) in
    let are : AreOfState (entries s) = record {
      ascend = sorted-entries key_cmp s;
      some = All-from_recursion (λ (e : Entry). 1 ≤ e.1.lamports) (entries s) (some_held (entries s) is.held);
      fits = is.fits;
    } in
    state_of-is (each keyed (entries s)) s (subst AreOfState (sym same) are) (sym same)
  where
    some_held : (es : List Entry) → AllByRecursion (λ (e : Entry). IsHeld e.1) es → AllByRecursion (λ (e : Entry). 1 ≤ e.1.lamports) es
    some_held [] held = tt
    some_held (e ∷ es) held = (held.0.0, some_held es held.1)

-- an entry above all others goes to the end
pub insert_entry-last : {X : Type 0} (es : List (Key × X)) (k : Key) (v : X) → AllByRecursion (λ (q : Key). key_cmp q k ≡ Less) (keys_of es) → insert_entry key_cmp es k v ≡ es ++ (k, v) ∷ []
insert_entry-last [] k v below = refl
insert_entry-last {X = X} (e ∷ es) k v below =
    let after : key_cmp k e.0 ≡ Greater = key_cmp_total.antisymm k e.0 ∙ ap ordering_reverse below.0 in
    ap (λ (o : Ordering). match_ordering o ((k, v) ∷ e ∷ es) ((e.0, v) ∷ es) (e ∷ insert_entry key_cmp es k v)) after
    ∙ ap (λ (l : List (Key × X)). e ∷ l) (insert_entry-last es k v below.1)

-- an entry of a list at which a loop stands: there are fewer before it than in all
pub few-before : (s : State) (so_far left all : List KeyedAccount) → entries s ≡ entries_of so_far → so_far ++ left ≡ all → length all < 2 ^ 32 → len s < 2 ^ 32
few-before s so_far left all has split few =
    let a = len-entries s in
    let b = ap length has in
    let c = length-map so_far entry_of in
    let d = ap length split in
    let e = length-append so_far left in
    omega (arith, a, b, c, d, e)

-- what is wrong with that entry is what is wrong first
pub refused-at : (list so_far left : List KeyedAccount) (e : KeyedAccount) (s : State) (fault : StoreFault)
    → entries s ≡ entries_of so_far
    → fault_after [] (entries_of list) ≡ fault_after (entries_of so_far) (entries_of (e ∷ left))
    → IsFaultOr (entry_fault (entries s) (entry_of e)) fault → MatchBool (is_store_memory fault) (Unit {0}) (state_of list ≡ Err fault)
refused-at list so_far left e s fault has all h = by_case (is_store_memory fault) h
  where
    by_case : (b : Bool) → MatchBool b (Unit {0}) (entry_fault (entries s) (entry_of e) ≡ Some fault) → MatchBool b (Unit {0}) (state_of list ≡ Err fault)
    by_case true g = tt
    by_case false g = first_or-some (entry_faults (entries_of list)) (Ok (from_entries {R = key_cmp} (entries_of list))) fault (first_fault-is (entries_of list) ∙ all
        ∙ ap (λ (o : Option StoreFault). first_of o (fault_after (entries_of so_far ++ entry_of e ∷ []) (entries_of left))) (ap (λ (l : List Entry). entry_fault l (entry_of e)) (sym has) ∙ g))

-- with one more entry with which nothing is wrong
pub fault_after-next : (list so_far left : List KeyedAccount) (e : KeyedAccount) (s : State)
    → entries s ≡ entries_of so_far
    → fault_after [] (entries_of list) ≡ fault_after (entries_of so_far) (entries_of (e ∷ left))
    → entry_fault (entries s) (entry_of e) ≡ None → fault_after [] (entries_of list) ≡ fault_after (entries_of (so_far ++ e ∷ [])) (entries_of left)
fault_after-next list so_far left e s has all none =
    all ∙ ap (λ (o : Option StoreFault). first_of o (fault_after (entries_of so_far ++ entry_of e ∷ []) (entries_of left))) (ap (λ (l : List Entry). entry_fault l (entry_of e)) (sym has) ∙ none)
    ∙ ap (λ (l : List Entry). fault_after l (entries_of left)) (sym (map-append entry_of so_far (e ∷ [])))

-- what holds of all holds of the next
pub next-of-all : {X : Type 0} (P : X → Type 0) (so_far left all : List X) (x : X) → All P all → so_far ++ x ∷ left ≡ all → P x
next-of-all P so_far left all x holds split = subst P (get_or-append_seam so_far x left x) (subst (λ (l : List _). P (get_or l (length so_far) x)) (sym split) (holds (length so_far) x within))
  where
    within : length so_far < length all
    within = let a = ap length split in let b = length-append so_far (x ∷ left) in omega (arith, a, b)
