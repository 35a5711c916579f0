-- A line has those that stand, by priority and then by position; a stable sort by priority gives it.
use Rattle.std.proofs.Common.{◌≡◌, ℕ, suc, ◌<◌, ◌≤◌, Bool, true, false, cond, List, [], ◌∷◌, ◌++◌, length, get_or, filter, refl, sym, ap, ◌∙◌, append_assoc, append-nil, arith, subst, fold, suc-le-suc, zero-le}
use Rattle.std.specs.Prelude.{AllPairs, nat_lt}
use Rattle.std.specs.Cmp.{IsStrictWeakOrder, nat_cmp_total}
use Rattle.std.specs.List.{AllByRecursion}
use Rattle.std.specs.List.Sorted.{IsPermutation, IsSortedBy, IsStableBy, ties}
use Rattle.std.specs.Ordering.{is_lt, nat_cmp}
use Rattle.std.specs.declared.cmp.Reverse.{Reverse}
use Rattle.std.proofs.lemmas.Bool.{cond-true}
use Rattle.std.proofs.lemmas.Bool.Decides.{nat_tests}
use Rattle.std.proofs.lemmas.List.Elements.{All-from_recursion, filter-append, recursion_from_All}
use Rattle.std.proofs.lemmas.List.Kept.{AllPairs-cons}
use Rattle.std.proofs.lemmas.List.Sorted.{IsPermutation-append_left, IsPermutation-cons, IsPermutation-middle, IsPermutation-refl, IsPermutation-sym, IsPermutation-trans, IsStrictWeakOrder-flip, ranks_by, sorted_far}
use Rattle.std.proofs.lemmas.List.Sums.{fold-append}
use Rattle.admission.specs.declared.chosen.Chosen.{Chosen}
use Rattle.admission.specs.Admission.{line, priority, with_next}
use Rattle.admission.specs.Lines.{IsLineOf, StandsBefore}

-- each transaction has a lower position than those after it
abbrev pub PositionsAscend : List Chosen → Type 0
PositionsAscend [] = Unit {0}
PositionsAscend (one ∷ others) = AllByRecursion (λ other. one.position < other.position) others × PositionsAscend others

-- what follows from what holds of all holds of all
pub weaker : (P Q : Chosen → Type 0) → ((one : Chosen) → P one → Q one) → (standing : List Chosen) → AllByRecursion P standing → AllByRecursion Q standing
weaker P Q to [] all = tt
weaker P Q to (one ∷ others) all = (to one all.0, weaker P Q to others all.1)

-- what holds of all and of one more holds of the line with it
pub all_placed : (P : Chosen → Type 0) (standing : List Chosen) (one : Chosen) → AllByRecursion P standing → P one → AllByRecursion P (with_next standing one)
all_placed P [] one all p = (p, tt)
all_placed P (other ∷ others) one all p = go (nat_lt (priority other) (priority one)) (all_placed P others one all.1 p)
  where
    go : (b : Bool) → AllByRecursion P (with_next others one) → AllByRecursion P (cond b (one ∷ other ∷ others) (other ∷ with_next others one))
    go true more = (p, all)
    go false more = (all.0, more)

all_in_line : (P : Chosen → Type 0) (before standing : List Chosen) → AllByRecursion P before → AllByRecursion P standing → AllByRecursion P (fold with_next before standing)
all_in_line P before [] b s = b
all_in_line P before (one ∷ others) b s = all_in_line P (with_next before one) others (all_placed P before one b s.0) s.1

pub all_line : (P : Chosen → Type 0) (standing : List Chosen) → AllByRecursion P standing → AllByRecursion P (line standing)
all_line P standing all = all_in_line P [] standing tt all

lower_before : (done left : List Chosen) (one : Chosen) → PositionsAscend (done ++ one ∷ left) → AllByRecursion (λ other. other.position < one.position) done
lower_before [] left one up = tt
lower_before (first ∷ done) left one up = (among done up.0, lower_before done left one up.1)
  where
    among : (others : List Chosen) → AllByRecursion (λ other. first.position < other.position) (others ++ one ∷ left) → first.position < one.position
    among [] all = all.0
    among (other ∷ others) all = among others all.1

-- ---- the order of a line
-- a line with one more holds it and all that it held
placed_permutes : (standing : List Chosen) (one : Chosen) → IsPermutation (one ∷ standing) (with_next standing one)
placed_permutes [] one = IsPermutation-refl (one ∷ [])
placed_permutes (other ∷ others) one = go (nat_lt (priority other) (priority one)) (placed_permutes others one)
  where
    go : (b : Bool) → IsPermutation (one ∷ others) (with_next others one) → IsPermutation (one ∷ other ∷ others) (cond b (one ∷ other ∷ others) (other ∷ with_next others one))
    go true more = IsPermutation-refl (one ∷ other ∷ others)
    go false more = IsPermutation-trans _ _ _ (IsPermutation-sym _ _ (IsPermutation-middle (other ∷ []) one others)) (IsPermutation-cons other _ _ more)

permutes_from : (before standing : List Chosen) → IsPermutation (before ++ standing) (fold with_next before standing)
permutes_from before [] = subst (λ (ls : List Chosen). IsPermutation ls before) (sym (append-nil before)) (IsPermutation-refl before)
permutes_from before (one ∷ others) =
    IsPermutation-trans _ _ _ (IsPermutation-middle before one others)
    (IsPermutation-trans _ _ _ (IsPermutation-append_left others (one ∷ before) (with_next before one) (placed_permutes before one)) (permutes_from (with_next before one) others))

-- a line holds those that stand, and no other
pub line_permutes : (standing : List Chosen) → IsPermutation standing (line standing)
line_permutes standing = permutes_from [] standing

-- each stands before all after it
abbrev pub Ranked : List Chosen → Type 0
Ranked [] = Unit {0}
Ranked (one ∷ others) = AllByRecursion (StandsBefore one) others × Ranked others

placed_ranked : (standing : List Chosen) (one : Chosen) → AllByRecursion (λ other. other.position < one.position) standing → Ranked standing → Ranked (with_next standing one)
placed_ranked [] one lower ranked = (tt, tt)
placed_ranked (other ∷ others) one lower ranked = go (nat_lt (priority other) (priority one)) refl (placed_ranked others one lower.1 ranked.1)
  where
    go : (b : Bool) → nat_lt (priority other) (priority one) ≡ b → Ranked (with_next others one) → Ranked (cond b (one ∷ other ∷ others) (other ∷ with_next others one))
    go true t more =
        let l : priority other < priority one = grind (arith, nat_tests) in (
          (
            record { higher = omega (arith, l); earlier = λ e. absurd (omega (arith, e, l)) },
            weaker
                (StandsBefore other) (StandsBefore one)
                (λ next b. record {
                  higher = omega (arith, l, b.higher);
                  earlier = λ e. absurd
                      (omega (arith, e, l, b.higher));
                }) others ranked.0,
          ),
          ranked,
        )
    go false t more =
        let l : priority one ≤ priority other = grind (arith, nat_tests) in
        (all_placed (StandsBefore other) others one ranked.0 (record { higher = l; earlier = λ e. lower.0 }), more)

ranked_from : (done left : List Chosen) → PositionsAscend (done ++ left) → Ranked (fold with_next [] done) → Ranked (fold with_next (fold with_next [] done) left)
ranked_from done [] up ranked = ranked
ranked_from done (one ∷ left) up ranked =
    let more : Ranked (line (done ++ one ∷ [])) = subst Ranked (sym (fold-append with_next [] done (one ∷ [])))
    (placed_ranked (line done) one
    (all_line (λ other. other.position < one.position) done (lower_before done left one up)) ranked) in
    subst (λ (before : List Chosen). Ranked (fold with_next before left))
    (fold-append with_next [] done (one ∷ []))
    (ranked_from (done ++ one ∷ []) left
    (subst PositionsAscend (sym (append_assoc done (one ∷ []) left)) up) more)

pub pairs_ranked : (standing : List Chosen) → Ranked standing → AllPairs StandsBefore standing
pairs_ranked [] ranked = λ i j d before within. absurd (omega (arith, within))
pairs_ranked (one ∷ others) ranked = AllPairs-cons StandsBefore one others (All-from_recursion (StandsBefore one) others ranked.0) (pairs_ranked others ranked.1)

pub line_ranked : (standing : List Chosen) → PositionsAscend standing → Ranked (line standing)
line_ranked standing up = ranked_from [] standing up tt

-- a line of those that stand by their positions
pub lines_are_by_priority : (standing : List Chosen) → PositionsAscend standing → IsLineOf standing (line standing)
lines_are_by_priority standing up = record { same = line_permutes standing; ranked = pairs_ranked (line standing) (line_ranked standing up) }

-- ---- a stable sort by priority
-- the key of the sort, and its test
abbrev pub rank : Chosen → Reverse ℕ
rank chosen = record { 0 = priority chosen }

abbrev higher : Chosen → Chosen → Bool
higher one other = is_lt (nat_cmp (priority other) (priority one))

higher_ranks : IsStrictWeakOrder higher
higher_ranks = IsStrictWeakOrder-flip (λ one other. is_lt (nat_cmp (priority one) (priority other))) (ranks_by nat_cmp_total priority)

-- those of the priority of one
abbrev level : Chosen → List Chosen → List Chosen
level one = filter (ties higher one)

same_priority : (one other : Chosen) → ties higher one other ≡ true → priority one ≡ priority other
same_priority one other tie = grind (arith, nat_tests)

tie_of_same : (one other : Chosen) → priority one ≡ priority other → ties higher one other ≡ true
tie_of_same one other same = grind (arith, nat_tests)

not_higher : (one other : Chosen) → higher one other ≡ false → priority one ≤ priority other
not_higher one other test = grind (arith, nat_tests)

level_of_tie : (one first : Chosen) (left : List Chosen) → priority one ≡ priority first → level one (first ∷ left) ≡ first ∷ level one left
level_of_tie one first left same = cond-true (ties higher one first) (first ∷ level one left) (level one left) (tie_of_same one first same)

level_of_first : (one : Chosen) (others : List Chosen) → level one (one ∷ others) ≡ one ∷ level one others
level_of_first one others = level_of_tie one one others refl

-- no priority is higher than one before it
abbrev Falls : List Chosen → Type 0
Falls [] = Unit {0}
Falls (one ∷ others) = AllByRecursion (λ other. priority other ≤ priority one) others × Falls others

placed_falls : (before : List Chosen) (one : Chosen) → Falls before → Falls (with_next before one)
placed_falls [] one falls = (tt, tt)
placed_falls (other ∷ others) one falls = go (nat_lt (priority other) (priority one)) refl (placed_falls others one falls.1)
  where
    go : (b : Bool) → nat_lt (priority other) (priority one) ≡ b → Falls (with_next others one) → Falls (cond b (one ∷ other ∷ others) (other ∷ with_next others one))
    go true t more =
        let l : priority other < priority one = grind (arith, nat_tests) in
        ((omega (arith, l), weaker (λ next. priority next ≤ priority other) (λ next. priority next ≤ priority one) (λ next le. omega (arith, l, le)) others falls.0), falls)
    go false t more = (all_placed (λ next. priority next ≤ priority other) others one falls.0 (grind (arith, nat_tests)), more)

falls_from : (before left : List Chosen) → Falls before → Falls (fold with_next before left)
falls_from before [] falls = falls
falls_from before (one ∷ left) falls = falls_from (with_next before one) left (placed_falls before one falls)

-- one before lower ones is as good as one behind them, for each level
past_lower : (x one : Chosen) (lower : List Chosen) → AllByRecursion (λ other. priority other < priority one) lower → level x (one ∷ lower) ≡ level x (lower ++ one ∷ [])
past_lower x one [] all = refl
past_lower x one (other ∷ others) all = go (ties higher x one) refl (ties higher x other) refl (past_lower x one others all.1)
  where
    go : (a : Bool) → ties higher x one ≡ a → (b : Bool) → ties higher x other ≡ b → cond a (one ∷ level x others) (level x others) ≡ level x (others ++ one ∷ [])
        → cond a (one ∷ cond b (other ∷ level x others) (level x others))
        (cond b (other ∷ level x others) (level x others))
        ≡ cond b (other ∷ level x (others ++ one ∷ [])) (level x (others ++ one ∷ []))
    go true s true t more = absurd (omega (arith, same_priority x one s, same_priority x other t, all.0))
    go true s false t more = more
    go false s true t more = ap (λ left. other ∷ left) more
    go false s false t more = more

placed_level : (x : Chosen) (before : List Chosen) (one : Chosen) → Falls before → level x (with_next before one) ≡ level x (before ++ one ∷ [])
placed_level x [] one falls = refl
placed_level x (other ∷ others) one falls = go (nat_lt (priority other) (priority one)) refl (placed_level x others one falls.1)
  where
    go : (b : Bool) → nat_lt (priority other) (priority one) ≡ b
        → level x (with_next others one) ≡ level x (others ++ one ∷ [])
        → level x (cond b (one ∷ other ∷ others) (other ∷ with_next others one))
        ≡ level x (other ∷ others ++ one ∷ [])
    go true t more =
        let l : priority other < priority one = grind (arith, nat_tests) in
        past_lower x one (other ∷ others) (l, weaker (λ next. priority next ≤ priority other) (λ next. priority next < priority one) (λ next le. omega (arith, l, le)) others falls.0)
    go false t more = ap (λ left. cond (ties higher x other) (other ∷ left) left) more

level_from : (x : Chosen) (before left : List Chosen) → Falls before → level x (fold with_next before left) ≡ level x (before ++ left)
level_from x before [] falls = ap (level x) (sym (append-nil before))
level_from x before (one ∷ left) falls =
    level_from x (with_next before one) left (placed_falls before one falls)
    ∙ filter-append (ties higher x) (with_next before one) left
    ∙ ap (λ begun. begun ++ level x left) (placed_level x before one falls)
    ∙ sym (filter-append (ties higher x) (before ++ one ∷ []) left)
    ∙ ap (level x) (append_assoc before (one ∷ []) left)

-- a level that is found is at most so high
level_at_most : (n : ℕ) (x first : Chosen) (standing left : List Chosen) → AllByRecursion (λ other. priority other ≤ n) standing → level x standing ≡ first ∷ left → priority x ≤ n
level_at_most n x first [] left all e = cc
level_at_most n x first (one ∷ others) left all e = go (ties higher x one) refl (level_at_most n x first others left all.1) e
  where
    go : (b : Bool) → ties higher x one ≡ b → (level x others ≡ first ∷ left → priority x ≤ n) → cond b (one ∷ level x others) (level x others) ≡ first ∷ left → priority x ≤ n
    go true t more found = omega (arith, same_priority x one t, all.0)
    go false t more found = more found

-- a list whose priorities fall is known by its levels
same_by_levels : (found wanted : List Chosen) → Falls found → Falls wanted → ((x : Chosen) → level x found ≡ level x wanted) → found ≡ wanted
same_by_levels [] [] f w same = refl
same_by_levels [] (one ∷ others) f w same = let e = same one ∙ level_of_first one others in cc
same_by_levels (one ∷ others) [] f w same = let e = sym (same one) ∙ level_of_first one others in cc
same_by_levels (one ∷ others) (first ∷ left) f w same =
    let most : priority one ≤ priority first = level_at_most (priority first) one one (first ∷ left) (level one others) (omega arith, w.0) (sym (same one) ∙ level_of_first one others) in
    let least : priority first ≤ priority one = level_at_most (priority one) first first (one ∷ others) (level first left) (omega arith, f.0) (same first ∙ level_of_first first left) in
    let heads : one ∷ level one others ≡ first ∷ level one left = sym (level_of_first one others) ∙ same one ∙ level_of_tie one first left (omega (arith, most, least)) in
    let head : one ≡ first = cc in
    let tails : (x : Chosen) → level x others ≡ level x left = λ x. tail x (ties higher x one) refl (same x ∙ ap (λ next. level x (next ∷ left)) (sym head)) in
    ap (λ next. next ∷ others) head ∙ ap (λ more. first ∷ more) (same_by_levels others left f.1 w.1 tails)
  where
    tail : (x : Chosen) (b : Bool) → ties higher x one ≡ b → cond b (one ∷ level x others) (level x others) ≡ cond b (one ∷ level x left) (level x left) → level x others ≡ level x left
    tail x true t e = cc
    tail x false t e = e

falls_of_sorted : (found : List Chosen) → ((i j : ℕ) (d : Chosen) → i ≤ j → j < length found → higher (get_or found j d) (get_or found i d) ≡ false) → Falls found
falls_of_sorted [] sorted = tt
falls_of_sorted (one ∷ others) sorted = (
  recursion_from_All (λ other. priority other ≤ priority one) others (λ k d below. not_higher (get_or others k d) one (sorted 0 (suc k) d zero-le (suc-le-suc below))),
  falls_of_sorted others (λ i j d le below. sorted (suc i) (suc j) d (suc-le-suc le) (suc-le-suc below)),
)

-- what a stable sort by priority gives is the line
pub line_by_sort : (standing found : List Chosen) → IsSortedBy higher found → IsStableBy higher standing found → found ≡ line standing
line_by_sort standing found sorted stable =
    same_by_levels found (line standing) (falls_of_sorted found (sorted_far higher higher_ranks found sorted)) (falls_from [] standing tt) (λ x. stable x ∙ sym (level_from x [] standing tt))
