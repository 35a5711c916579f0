-- Each position of a batch runs or is refused.
use Rattle.std.proofs.Common.{◌≡◌, ◌≤◌, ◌<◌, ◌+◌, ℕ, zero, suc, Bool, true, false, List, [], ◌∷◌, ◌++◌, length, map, take, get_or, fold, Option, Some, None, Result, Ok, Err, refl, sym, ap, ap₂, subst, ◌∙◌, append_assoc, append-nil, inl, inr, ◌⊎◌, arith, zero-add, ne_eqb}
use Rattle.std.specs.Prelude.{AllPairs, Any, nat_eq, if◌then◌else◌}
use Rattle.std.specs.Result.{result_ok}
use Rattle.std.specs.List.{AllByRecursion, IsDistinct, cons_option, enumerate_from, filter_map}
use Rattle.std.specs.List.Sorted.{IsPermutation}
use Rattle.std.proofs.lemmas.Bool.Decides.{nat_tests}
use Rattle.std.proofs.lemmas.List.{get_or-map, length-map}
use Rattle.std.proofs.lemmas.List.Elements.{All-from_recursion, recursion_from_All}
use Rattle.std.proofs.lemmas.List.FromFn.{get_or-enumerate_from, length-enumerate_from}
use Rattle.std.proofs.lemmas.List.Kept.{AllPairs-cons}
use Rattle.std.proofs.lemmas.List.Sorted.{All-permutation, IsPermutation-map, IsPermutation-refl, IsPermutation-sym}
use Rattle.std.proofs.lemmas.Map.Keys.{IsDistinct-IsPermutation}
use Rattle.sol_base.specs.declared.limits.Limits.{Limits}
use Rattle.message_codec.specs.declared.parsed.Parsed.{Parsed}
use Rattle.message_codec.specs.Parsing.{parsed_of}
use Rattle.status_cache.specs.Recent.{has_hash}
use Rattle.admission.specs.declared.chosen.Chosen.{Chosen}
use Rattle.admission.specs.declared.refusal.Refusal.{Refusal}
use Rattle.admission.specs.declared.refusal.Refused.{Refused}
use Rattle.admission.specs.Admission.{Start, Walk, admitted, answer_of, early, late, late_cause, line, listed, or_else, refusal_in, refused_in, sifted_in, sifted_out, standing_names, walk, walk_with}
use Rattle.admission.specs.Sums.{cause_with, numbered_at, numbered_in, with_late}
use Rattle.admission.proofs.AnswerLaws.{all_run}
use Rattle.admission.proofs.LineLaws.{PositionsAscend, line_permutes}
use Rattle.admission.proofs.PartLaws.{all_standing, comes_from, standing_positions_ascend}
use Rattle.admission.proofs.WalkLaws.{count_late, refused_by_causes}
use Rattle.block_laws.specs.Parts.{PositionsAreParted}

-- ---- some of them stands at a position
abbrev AnyByRecursion : {X : Type 0} → (X → Type 0) → List X → Type 0
AnyByRecursion P [] = ⊥
AnyByRecursion P (x ∷ xs) = P x ⊎ AnyByRecursion P xs

any_from : {X : Type 0} (P : X → Type 0) (xs : List X) → AnyByRecursion P xs → Any P xs
any_from P [] h = absurd h
any_from P (x ∷ xs) (inl p) = (zero, x, omega arith, refl, p)
any_from P (x ∷ xs) (inr h) = let a = any_from P xs h in (suc a.0, a.1, (let l = a.2 in omega (arith, l)), a.3, a.4)

any_to : {X : Type 0} (P : X → Type 0) (xs : List X) → Any P xs → AnyByRecursion P xs
any_to P [] h = absurd (let l = h.2 in omega (arith, l))
any_to P (x ∷ xs) (zero, y, l, e, p) = inl (subst P (sym e) p)
any_to P (x ∷ xs) (suc k, y, l, e, p) = inr (any_to P xs (k, y, omega (arith, l), e, p))

-- what holds of all holds of one of them
at_one : {X : Type 0} (P Q : X → Type 0) (R : Type 0) → ((x : X) → P x → Q x → R) → (xs : List X) → AnyByRecursion P xs → AllByRecursion Q xs → R
at_one P Q R f [] any all = absurd any
at_one P Q R f (x ∷ xs) (inl p) all = f x p all.0
at_one P Q R f (x ∷ xs) (inr any) all = at_one P Q R f xs any all.1

abbrev At : ℕ → List Chosen → Type 0
At p ts = AnyByRecursion (λ t. t.position ≡ p) ts

at_push : (p : ℕ) (ts : List Chosen) (one : Chosen) → At p ts → At p (ts ++ one ∷ [])
at_push p [] one h = absurd h
at_push p (t ∷ ts) one (inl e) = inl e
at_push p (t ∷ ts) one (inr h) = inr (at_push p ts one h)

at_pushed : (p : ℕ) (ts : List Chosen) (one : Chosen) → one.position ≡ p → At p (ts ++ one ∷ [])
at_pushed p [] one e = inl e
at_pushed p (t ∷ ts) one e = inr (at_pushed p ts one e)

-- ---- the walk
abbrev IsLate : List Refused → ℕ → Type 0
IsLate refused p = (cause : Refusal) × (late_cause refused p ≡ Some cause)

late_one : (refused : List Refused) (p q : ℕ) (cause : Refusal) → q ≡ p → IsLate (record { position = q; cause = cause } ∷ refused) p
late_one refused p q cause e = (cause, ap (λ b. if b then Some cause else late_cause refused p) (let same : nat_eq q p ≡ true = grind (arith, nat_tests) in same))

late_more : (refused : List Refused) (p q : ℕ) (cause : Refusal) → IsLate refused p → IsLate (record { position = q; cause = cause } ∷ refused) p
late_more refused p q cause was = go (nat_eq q p)
  where
    go : (b : Bool) → (c : Refusal) × ((if b then Some cause else late_cause refused p) ≡ Some c)
    go true = (cause, refl)
    go false = was

module _ (limits : Limits) (p : ℕ) where
  -- a position of a line runs, or is refused
  walked_each : (before : Walk) (left : List Chosen) → At p before.order ⊎ IsLate before.refused p ⊎ At p left
      → At p (fold (λ before one. walk_with before one (late limits before.order one)) before left).order
      ⊎ IsLate (fold (λ before one. walk_with before one (late limits before.order one)) before left).refused p
  walked_each before [] (inl h) = inl h
  walked_each before [] (inr (inl h)) = inr h
  walked_each before [] (inr (inr h)) = absurd h
  walked_each before (one ∷ left) h = walked_each (walk_with before one (late limits before.order one)) left (go (late limits before.order one) h)
    where
      go : (o : Option Refusal) → At p before.order ⊎ IsLate before.refused p ⊎ At p (one ∷ left) → At p (walk_with before one o).order ⊎ IsLate (walk_with before one o).refused p ⊎ At p left
      go None (inl h) = inl (at_push p before.order one h)
      go None (inr (inl h)) = inr (inl h)
      go None (inr (inr (inl e))) = inl (at_pushed p before.order one e)
      go None (inr (inr (inr h))) = inr (inr h)
      go (Some cause) (inl h) = inl h
      go (Some cause) (inr (inl h)) = inr (inl (late_more before.refused p one.position cause h))
      go (Some cause) (inr (inr (inl e))) = inr (inl (late_one before.refused p one.position cause e))
      go (Some cause) (inr (inr (inr h))) = inr (inr h)

-- those that run have no late cause
abbrev HasNone : List Refused → Chosen → Type 0
HasNone refused t = late_cause refused t.position ≡ None

none_more : (refused : List Refused) (q : ℕ) (cause : Refusal) (ts : List Chosen) → AllByRecursion (λ t. nat_eq q t.position ≡ false) ts → AllByRecursion (HasNone refused) ts
    → AllByRecursion (HasNone (record { position = q; cause = cause } ∷ refused)) ts
none_more refused q cause [] apart none = tt
none_more refused q cause (t ∷ ts) apart none = (ap (λ b. if b then Some cause else late_cause refused t.position) apart.0 ∙ none.0, none_more refused q cause ts apart.1 none.1)

none_push : (refused : List Refused) (ts : List Chosen) (one : Chosen) → AllByRecursion (HasNone refused) ts → HasNone refused one → AllByRecursion (HasNone refused) (ts ++ one ∷ [])
none_push refused [] one all none = (none, tt)
none_push refused (t ∷ ts) one all none = (all.0, none_push refused ts one all.1 none)

abbrev AreOnce : List Chosen → Type 0
AreOnce ts = IsDistinct nat_eq (map (λ t. t.position) ts)

among : (q : ℕ) (ts : List Chosen) → AllByRecursion (λ p. nat_eq q p ≡ false) (map (λ t. t.position) ts) → AllByRecursion (λ t. nat_eq q t.position ≡ false) ts
among q [] all = tt
among q (t ∷ ts) all = (all.0, among q ts all.1)

nat_eq_flips : (x y : ℕ) → nat_eq x y ≡ nat_eq y x
nat_eq_flips x y = grind (arith, nat_tests)

-- one in a row of others: those before it and those after it stand elsewhere, and so they do without it
before_one : (done : List Chosen) (one : Chosen) (left : List Chosen) → AreOnce (done ++ one ∷ left) → AllByRecursion (λ t. nat_eq one.position t.position ≡ false) done
unfolding IsDistinct
before_one [] one left once = tt
before_one (t ∷ done) one left once = (nat_eq_flips one.position t.position ∙ here done once.0, before_one done one left once.1)
  where
    here : (done : List Chosen) → AllByRecursion (λ p. nat_eq t.position p ≡ false) (map (λ t. t.position) (done ++ one ∷ left)) → nat_eq t.position one.position ≡ false
    here [] all = all.0
    here (d ∷ done) all = here done all.1

after_one : (done : List Chosen) (one : Chosen) (left : List Chosen) → AreOnce (done ++ one ∷ left) → AllByRecursion (λ t. nat_eq one.position t.position ≡ false) left
unfolding IsDistinct
after_one [] one left once = among one.position left once.0
after_one (t ∷ done) one left once = after_one done one left once.1

without_one : (done : List Chosen) (one : Chosen) (left : List Chosen) → AreOnce (done ++ one ∷ left) → AreOnce (done ++ left)
unfolding IsDistinct
without_one [] one left once = once.1
without_one (t ∷ done) one left once = (here done once.0, without_one done one left once.1)
  where
    here : (done : List Chosen) → AllByRecursion (λ p. nat_eq t.position p ≡ false)
        (map (λ t. t.position) (done ++ one ∷ left))
        → AllByRecursion (λ p. nat_eq t.position p ≡ false) (map (λ t. t.position) (done ++ left))
    here [] all = all.1
    here (d ∷ done) all = (all.0, here done all.1)

record IsWalked (walk : Walk) : Type 0 where
  pub none : AllByRecursion (HasNone walk.refused) walk.order
  pub once : AreOnce walk.order

walked_apart : (limits : Limits) (before : Walk) (left : List Chosen)
    → AllByRecursion (HasNone before.refused) before.order → AllByRecursion (HasNone before.refused) left
    → AreOnce (before.order ++ left)
    → IsWalked (fold (λ before one. walk_with before one (late limits before.order one)) before left)
walked_apart limits before [] run later once = record { none = run; once = subst AreOnce (append-nil before.order) once }
walked_apart limits before (one ∷ left) run later once = go (late limits before.order one) (λ walk. walked_apart limits walk left)
  where
    go : (o : Option Refusal) → ((walk : Walk) → AllByRecursion (HasNone walk.refused) walk.order
        → AllByRecursion (HasNone walk.refused) left → AreOnce (walk.order ++ left)
        → IsWalked (fold (λ before one. walk_with before one (late limits before.order one)) walk left))
        → IsWalked (fold (λ before one. walk_with before one (late limits before.order one)) (walk_with before one o) left)
    go None more = more (walk_with before one None) (none_push before.refused before.order one run later.0) later.1 (subst AreOnce (sym (append_assoc before.order (one ∷ []) left)) once)
    go (Some cause) more =
        more (walk_with before one (Some cause)) (none_more before.refused one.position cause before.order (before_one before.order one left once) run)
        (none_more before.refused one.position cause left (after_one before.order one left once) later.1) (without_one before.order one left once)

walk_apart : (limits : Limits) (found : List Chosen) → AreOnce found → IsWalked (walk limits found)
walk_apart limits found once = walked_apart limits (record { order = []; refused = [] }) found tt (none_yet found) once
  where
    none_yet : (ts : List Chosen) → AllByRecursion (HasNone []) ts
    none_yet [] = tt
    none_yet (t ∷ ts) = (refl, none_yet ts)

-- ---- the causes
abbrev numbered_from : ℕ → List (Option Refusal) → List Refused
numbered_from n causes = filter_map numbered_at (enumerate_from n causes)

refused_at : (n k : ℕ) (causes : List (Option Refusal)) (cause : Refusal) → k < length causes
    → get_or causes k None ≡ Some cause
    → AnyByRecursion (λ refused. refused.position ≡ n + k) (numbered_from n causes)
refused_at n k [] cause l e = absurd (omega (arith, l))
refused_at n zero (None ∷ causes) cause l e = absurd (cc)
refused_at n zero (Some other ∷ causes) cause l e = inl (omega arith)
refused_at n (suc k) (None ∷ causes) cause l e = subst
    (λ m. AnyByRecursion (λ refused. refused.position ≡ m) (numbered_from (n + 1) causes)) (omega arith)
    (refused_at (n + 1) k causes cause (omega (arith, l)) e)
refused_at n (suc k) (Some other ∷ causes) cause l e = inr
    (subst (λ m. AnyByRecursion (λ refused. refused.position ≡ m) (numbered_from (n + 1) causes)) (omega arith)
    (refused_at (n + 1) k causes cause (omega (arith, l)) e))

record HasCause (n p : ℕ) (causes : List (Option Refusal)) : Type 0 where
  pub place : ℕ
  pub is : n + place ≡ p
  pub below : place < length causes
  pub cause : Refusal
  pub there : get_or causes place None ≡ Some cause

cause_later : (n p : ℕ) (first : Option Refusal) (causes : List (Option Refusal)) → HasCause (n + 1) p causes → HasCause n p (first ∷ causes)
cause_later n p first causes has = record { place = suc has.place; is = (let e = has.is in omega (arith, e)); below = (let l = has.below in omega (arith, l)); cause = has.cause; there = has.there }

refused_has : (n p : ℕ) (causes : List (Option Refusal)) → AnyByRecursion (λ refused. refused.position ≡ p) (numbered_from n causes) → HasCause n p causes
refused_has n p [] h = absurd h
refused_has n p (None ∷ causes) h = cause_later n p None causes (refused_has (n + 1) p causes h)
refused_has n p (Some cause ∷ causes) (inl e) = record { place = 0; is = omega (arith, e); below = omega arith; cause = cause; there = refl }
refused_has n p (Some cause ∷ causes) (inr h) = cause_later n p (Some cause) causes (refused_has (n + 1) p causes h)

abbrev Ascend : List Refused → Type 0
Ascend [] = Unit {0}
Ascend (one ∷ others) = AllByRecursion (λ other. one.position < other.position) others × Ascend others

higher : (n m : ℕ) (rs : List Refused) → n < m → AllByRecursion (λ refused. m ≤ refused.position) rs → AllByRecursion (λ refused. n < refused.position) rs
higher n m [] l all = tt
higher n m (one ∷ rs) l all = ((let a = all.0 in omega (arith, l, a)), higher n m rs l all.1)

lower : (n m : ℕ) (rs : List Refused) → n ≤ m → AllByRecursion (λ refused. m ≤ refused.position) rs → AllByRecursion (λ refused. n ≤ refused.position) rs
lower n m [] l all = tt
lower n m (one ∷ rs) l all = ((let a = all.0 in omega (arith, l, a)), lower n m rs l all.1)

ascend_from : (n : ℕ) (causes : List (Option Refusal)) → AllByRecursion (λ refused. n ≤ refused.position) (numbered_from n causes) × Ascend (numbered_from n causes)
ascend_from n [] = (tt, tt)
ascend_from n (None ∷ causes) = let more = ascend_from (n + 1) causes in (lower n (n + 1) (numbered_from (n + 1) causes) (omega arith) more.0, more.1)
ascend_from n (Some cause ∷ causes) =
    let more = ascend_from (n + 1) causes in
    ((omega arith, lower n (n + 1) (numbered_from (n + 1) causes) (omega arith) more.0), (higher n (n + 1) (numbered_from (n + 1) causes) (omega arith) more.0, more.1))

pairs_ascend : (rs : List Refused) → Ascend rs → AllPairs (λ one other. one.position < other.position) rs
pairs_ascend [] up = λ i j d before within. absurd (omega (arith, within))
pairs_ascend (one ∷ others) up =
    AllPairs-cons (λ (one other : Refused). one.position < other.position) one others (All-from_recursion (λ (other : Refused). one.position < other.position) others up.0) (pairs_ascend others up.1)

-- the cause of a position after those of the walk
late_at : (refused : List Refused) (causes : List (Option Refusal)) (i : ℕ) → i < length causes → get_or (with_late refused causes) i None ≡ or_else (late_cause refused i) (get_or causes i None)
late_at refused causes i l =
    let within : i < length (enumerate_from 0 causes) = rw (length-enumerate_from 0 causes) l in
    let entry : get_or (enumerate_from 0 causes) i (i, None) ≡ (i, get_or causes i None) = get_or-enumerate_from 0 causes i (i, None) l ∙ (λ j. (zero-add i j, get_or causes i None)) in
    get_or-map (cause_with refused) (enumerate_from 0 causes) i (i, None) None within ∙ ap (cause_with refused) entry

neither : (late early : Option Refusal) → or_else late early ≡ None → (late ≡ None) × (early ≡ None)
neither None None e = (refl, refl)
neither None (Some cause) e = absurd (cc)
neither (Some cause) early e = absurd (cc)

-- ---- a batch
positions_differ : (standing : List Chosen) → PositionsAscend standing → AreOnce standing
unfolding IsDistinct
positions_differ [] up = tt
positions_differ (one ∷ others) up = (go others up.0, positions_differ others up.1)
  where
    go : (others : List Chosen) → AllByRecursion (λ other. one.position < other.position) others
        → AllByRecursion (λ position. nat_eq one.position position ≡ false)
        (map (λ other. other.position) others)
    go [] all = tt
    go (other ∷ others) all = (ne_eqb one.position other.position (λ e. omega (arith, e, all.0)), go others all.1)

module _ (start : Start) (wires : List (List ℕ)) where
  abbrev batch : List Parsed
  batch = map parsed_of wires

  abbrev causes : List (Option Refusal)
  causes = map (early start batch) (enumerate_from 0 batch)

  cause_count : length causes ≡ length wires
  cause_count = simp (length-map, length-enumerate_from)

  abbrev standing_from : ℕ → List Parsed → List Chosen
  standing_from n rest = filter_map (λ entry. result_ok (sifted_in start batch entry)) (enumerate_from n rest)

  -- a position without an early cause stands
  stands_at : (n k : ℕ) (rest : List Parsed) → k < length rest → get_or (map (early start batch) (enumerate_from n rest)) k None ≡ None → At (n + k) (standing_from n rest)
  stands_at n k [] l none = absurd (omega (arith, l))
  stands_at n zero (x ∷ rest) l none = go (sifted_in start batch (n, x)) refl none
    where
      go : (r : Result Chosen Refusal) → sifted_in start batch (n, x) ≡ r → refusal_in r ≡ None → At (n + 0) (cons_option (result_ok r) (standing_from (n + 1) rest))
      go (Err cause) er none = absurd (cc)
      go (Ok chosen) er none = let place = (comes_from start (has_hash (standing_names start (take n batch))) n x chosen er).place in inl (omega (arith, place))
  stands_at n (suc k) (x ∷ rest) l none = go (sifted_in start batch (n, x)) (subst (λ m. At m (standing_from (n + 1) rest)) (omega arith) (stands_at (n + 1) k rest (omega (arith, l)) none))
    where
      go : (r : Result Chosen Refusal) → At (n + suc k) (standing_from (n + 1) rest) → At (n + suc k) (cons_option (result_ok r) (standing_from (n + 1) rest))
      go (Err cause) more = more
      go (Ok chosen) more = inr more

  -- and those that stand have none
  abbrev HasNoEarly : Chosen → Type 0
  HasNoEarly t = get_or causes t.position None ≡ None

  none_early : AllByRecursion HasNoEarly (sifted_out start batch)
  none_early = all_standing start batch HasNoEarly (λ n x chosen within here e.
      let from = comes_from start (has_hash (standing_names start (take n batch))) n x chosen e in
      let among : n < length (enumerate_from 0 batch) = rw (length-enumerate_from 0 batch) within in
      let entry : get_or (enumerate_from 0 batch) n (n, x) ≡ (n, x) = get_or-enumerate_from 0 batch n (n, x) within ∙ (λ j. (zero-add n j, here j)) in
      let none : get_or causes n None ≡ None = get_or-map (early start batch) (enumerate_from 0 batch) n (n, x) None among ∙ ap (early start batch) entry ∙ ap refusal_in e in
      ap (λ i. get_or causes i None) from.place ∙ none)

  in_place : (P : Chosen → Type 0) (found : List Chosen) → IsPermutation (sifted_out start batch) found → AllByRecursion P (sifted_out start batch) → AllByRecursion P found
  in_place P found same all = recursion_from_All P found (All-permutation P (sifted_out start batch) found same (All-from_recursion P (sifted_out start batch) all))

  module _ (found : List Chosen) (same : IsPermutation (sifted_out start batch) found) where
    abbrev after : Walk
    after = walk start.limits found

    abbrev all_causes : List (Option Refusal)
    all_causes = with_late after.refused causes

    refused_is : numbered_in all_causes ≡ refused_in start batch after.refused
    refused_is = refused_by_causes start batch after.refused

    all_count : length all_causes ≡ length wires
    all_count = count_late after.refused causes ∙ cause_count

    cause_at : (p : ℕ) → p < length wires → get_or all_causes p None ≡ or_else (late_cause after.refused p) (get_or causes p None)
    cause_at p l = late_at after.refused causes p (omega (arith, l, cause_count))

    found_at : (p : ℕ) → At p (sifted_out start batch) → At p found
    found_at p at =
        at_one (λ t. t.position ≡ p) (λ t. At t.position found) (At p found) (λ t e h. subst (λ q. At q found) e h) (sifted_out start batch) at
        (recursion_from_All (λ t. At t.position found) (sifted_out start batch)
        (All-permutation (λ t. At t.position found) found (sifted_out start batch)
        (IsPermutation-sym (sifted_out start batch) found same)
        (All-from_recursion (λ t. At t.position found) found (each_there found (λ p h. h)))))
      where
        each_there : (ts : List Chosen) → ((p : ℕ) → At p ts → At p found) → AllByRecursion (λ t. At t.position found) ts
        each_there [] into = tt
        each_there (t ∷ ts) into = (into t.position (inl refl), each_there ts (λ p h. into p (inr h)))

    once : AreOnce found
    once = IsDistinct-IsPermutation nat_eq nat_eq_flips (map (λ t. t.position) (sifted_out start batch))
        (map (λ t. t.position) found) (IsPermutation-map (λ t. t.position) (sifted_out start batch) found same)
        (positions_differ (sifted_out start batch) (standing_positions_ascend start batch))

    walked : IsWalked after
    walked = walk_apart start.limits found once

    each : (p : ℕ) → p < length wires → At p after.order ⊎ AnyByRecursion (λ refused. refused.position ≡ p) (refused_in start batch after.refused)
    each p l = go (get_or all_causes p None) refl
      where
        runs : (late_cause after.refused p ≡ None) × (get_or causes p None ≡ None) → At p after.order ⊎ IsLate after.refused p → At p after.order
        runs none (inl h) = h
        runs none (inr late) = absurd (let a = none.0 in let b = late.1 in none_some (late_cause after.refused p) late.0 a b)
          where
            none_some : (o : Option Refusal) (cause : Refusal) → o ≡ None → o ≡ Some cause → ⊥
            none_some None cause a b = absurd (cc)
            none_some (Some other) cause a b = absurd (cc)

        go : (o : Option Refusal) → get_or all_causes p None ≡ o → At p after.order ⊎ AnyByRecursion (λ refused. refused.position ≡ p) (refused_in start batch after.refused)
        go (Some cause) e =
            inr (subst (AnyByRecursion (λ refused. refused.position ≡ p)) refused_is
            (subst (λ m. AnyByRecursion (λ refused. refused.position ≡ m) (numbered_in all_causes))
            (zero-add p) (refused_at 0 p all_causes cause (omega (arith, l, all_count)) e)))
        go None e =
            let none = neither (late_cause after.refused p) (get_or causes p None) (sym (cause_at p l) ∙ e) in
            let stands : At (0 + p) (sifted_out start batch) = stands_at 0 p batch (omega (arith, l, length-map wires parsed_of)) none.1 in
            inl (runs none (walked_each start.limits p (record { order = []; refused = [] }) found (inr (inr (found_at p (subst (λ m. At m (sifted_out start batch)) (zero-add p) stands))))))

    apart : (p : ℕ) → At p after.order → AnyByRecursion (λ refused. refused.position ≡ p) (refused_in start batch after.refused) → ⊥
    apart p runs refused =
        let has = refused_has 0 p all_causes (subst (AnyByRecursion (λ refused. refused.position ≡ p)) (sym refused_is) refused) in
        let is : has.place ≡ p = let e = has.is in omega (arith, e) in
        let l : p < length wires = let b = has.below in omega (arith, b, is, all_count) in
        let late : late_cause after.refused p
        ≡ None = at_one (λ t. t.position ≡ p) (HasNone after.refused) (late_cause after.refused p ≡ None)
        (λ t e h. subst (λ q. late_cause after.refused q ≡ None) e h) after.order runs walked.none in
        let early : get_or causes p None
        ≡ None = at_one (λ t. t.position ≡ p) HasNoEarly (get_or causes p None ≡ None)
        (λ t e h. subst (λ q. get_or causes q None ≡ None) e h) after.order runs
        (all_run HasNoEarly start.limits found (in_place HasNoEarly found same none_early)) in
        let none : get_or all_causes p None ≡ None = cause_at p l ∙ ap₂ or_else late early in
        let some : get_or all_causes p None ≡ Some has.cause = subst (λ q. get_or all_causes q None ≡ Some has.cause) is has.there in
        contra (get_or all_causes p None) has.cause none some
      where
        contra : (o : Option Refusal) (cause : Refusal) → o ≡ None → o ≡ Some cause → ⊥
        contra None cause a b = absurd (cc)
        contra (Some other) cause a b = absurd (cc)

    either : {A B C D : Type 0} → (A → C) → (B → D) → A ⊎ B → C ⊎ D
    either f g (inl a) = inl (f a)
    either f g (inr b) = inr (g b)

    parted : PositionsAreParted wires (answer_of start batch after)
    parted = record {
      each = λ p l. either (any_from (λ t. t.position ≡ p) after.order) (any_from (λ refused. refused.position ≡ p) (refused_in start batch after.refused)) (each p l);
      apart = λ p runs refused. apart p (any_to (λ t. t.position ≡ p) after.order runs) (any_to (λ refused. refused.position ≡ p) (refused_in start batch after.refused) refused);
      once = walked.once;
      ascending = subst (AllPairs (λ one other. one.position < other.position)) refused_is (pairs_ascend (numbered_in all_causes) (ascend_from 0 all_causes).1);
    }

-- a batch by priority
pub admitted_are_parted : (start : Start) (wires : List (List ℕ)) → PositionsAreParted wires (admitted start wires)
unfolding admitted
admitted_are_parted start wires = parted start wires (line (sifted_out start (map parsed_of wires))) (line_permutes (sifted_out start (map parsed_of wires)))

-- and one by position
pub listed_are_parted : (start : Start) (wires : List (List ℕ)) → PositionsAreParted wires (listed start wires)
unfolding listed
listed_are_parted start wires = parted start wires (sifted_out start (map parsed_of wires)) (IsPermutation-refl (sifted_out start (map parsed_of wires)))
