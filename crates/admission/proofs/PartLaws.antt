-- How a batch is parted into the transactions that run and those that do not.
use Rattle.std.proofs.Common.{◌≡◌, ◌≢◌, ℕ, zero, suc, ◌+◌, ◌<◌, ◌≤◌, Bool, true, false, List, [], ◌∷◌, ◌++◌, length, map, take, get_or, set, fold, refl, sym, ap, ◌∙◌, append_assoc, append-nil, length-append, zero-add, arith, subst, Option, Some, None, Result, Ok, Err, All, nat_lt, ne_eqb}
use Rattle.std.specs.Prelude.{AllPairs, if◌then◌else◌, nat_eq}
use Rattle.std.specs.Result.{result_ok}
use Rattle.std.specs.List.{AllByRecursion, IsDistinct, cons_option, enumerate_from, filter_map}
use Rattle.std.specs.List.Sorted.{IsPermutation}
use Rattle.std.proofs.lemmas.Bool.{both_ways, false_from_ne_true, or_parts}
use Rattle.std.proofs.lemmas.Bool.Decides.{nat_tests}
use Rattle.std.proofs.lemmas.List.{get_or-map, get_or_at, length-map, take_at}
use Rattle.std.proofs.lemmas.List.Elements.{All-from_recursion, recursion_from_All}
use Rattle.std.proofs.lemmas.List.Kept.{AllPairs-cons}
use Rattle.std.proofs.lemmas.List.FromFn.{get_or-enumerate_from, length-enumerate_from}
use Rattle.std.proofs.lemmas.List.Sorted.{All-permutation, IsPermutation-map, IsPermutation-refl, length_permutation}
use Rattle.std.proofs.lemmas.Map.Keys.{IsDistinct-IsPermutation}
use Rattle.spec_base.specs.Reading.{◌>>=◌}
use Rattle.sol_base.specs.declared.key.Hash32.{Hash32}
use Rattle.sol_base.specs.declared.limits.Limits.{Limits}
use Rattle.sol_base.specs.Keys.{same_hash}
use Rattle.sol_base.proofs.KeyLaws.{same_hash-Decides}
use Rattle.message_codec.specs.declared.fault.WireFault.{WireFault}
use Rattle.message_codec.specs.declared.fault.WireFault.TheVariants.{TooLong}
use Rattle.message_codec.specs.declared.message.Loaded.{Loaded}
use Rattle.message_codec.specs.declared.message.Tx.{Tx}
use Rattle.message_codec.specs.declared.parsed.Parsed.{Parsed}
use Rattle.message_codec.specs.declared.parsed.Parsed.TheVariants.{Good, Bad}
use Rattle.message_codec.specs.Parsing.{parsed_by, parsed_of}
use Rattle.message_codec.specs.Wire.{max_wire_len}
use Rattle.message_codec.specs.WireReading.{wire_of}
use Rattle.fee_rules.specs.declared.budget.Budget.{Budget}
use Rattle.fee_rules.specs.declared.budget.BudgetFault.{BudgetFault}
use Rattle.fee_rules.specs.Budgets.{budget_in}
use Rattle.status_cache.specs.Recent.{has_hash}
use Rattle.admission.specs.declared.chosen.Chosen.{Chosen}
use Rattle.admission.specs.declared.refusal.Refusal.{Refusal}
use Rattle.admission.specs.declared.refusal.Refusal.TheVariants.{Budget as no_budget, RepeatedInBatch}
use Rattle.admission.specs.declared.refusal.Refused.{Refused}
use Rattle.admission.specs.Admission.{Start, Walk, admitted, answer_of, as_cause, chosen_with, early, is_name, late, late_cause, line, listed, or_else, refusal_in, refused_in, sifted, sifted_in, sifted_out, standing_name, standing_names, stands, walk, walk_with}
use Rattle.admission.specs.Batches.{IsOf, IsParted}
use Rattle.admission.specs.Lines.{StandsBefore}
use Rattle.admission.specs.Sums.{cause_with, numbered_at, numbered_in, with_late}
use Rattle.admission.proofs.AnswerLaws.{all_run}
use Rattle.admission.proofs.LineLaws.{PositionsAscend, Ranked, line_permutes, line_ranked, pairs_ranked}
use Rattle.admission.proofs.SiftLaws.{name_stands, one_name_more}
use Rattle.admission.proofs.WalkLaws.{count_late, late_more, none_late, refused_by_causes}

-- ---- one that stands
-- a transaction that stands at a position is what was read there, and none before it has its name
pub record ComesFrom (start : Start) (is_before : Hash32 → Bool) (position : ℕ) (parsed : Parsed) (chosen : Chosen) : Type 0 where
  pub place : chosen.position ≡ position
  pub read : parsed ≡ Good chosen.tx chosen.name
  pub fresh : is_before chosen.name ≡ false
  pub named : standing_name start parsed ≡ Some chosen.name

pub comes_from : (start : Start) (is_before : Hash32 → Bool) (position : ℕ) (parsed : Parsed) (chosen : Chosen)
    → sifted start is_before position parsed ≡ Ok chosen → ComesFrom start is_before position parsed chosen
unfolding sifted
comes_from start is_before position (Bad fault) chosen e = absurd (cc)
comes_from start is_before position (Good tx name) chosen e = go (stands start tx name) refl (is_before name) refl (budget_in tx.message) e
  where
    go : (a : Result Loaded Refusal) → stands start tx name ≡ a → (b : Bool) → is_before name ≡ b → (r : Result Budget BudgetFault)
        → (a >>= λ loaded. if b then Err RepeatedInBatch else
        (as_cause no_budget r >>= λ budget. Ok (chosen_with position tx name loaded budget))) ≡ Ok chosen
        → ComesFrom start is_before position (Good tx name) chosen
    go (Err cause) ea b eb r e = absurd (cc)
    go (Ok loaded) ea true eb r e = absurd (cc)
    go (Ok loaded) ea false eb (Err fault) e = absurd (cc)
    go (Ok loaded) ea false eb (Ok budget) e =
        let same : chosen_with position tx name loaded budget ≡ chosen = cc in
        subst (ComesFrom start is_before position (Good tx name)) same (record { place = refl; read = refl; fresh = eb; named = name_stands start tx name loaded ea })

-- a wire that holds a transaction has at most 1,232 bytes
pub read_wires_are_short : (wire : List ℕ) (tx : Tx) (name : Hash32) → parsed_of wire ≡ Good tx name → length wire ≤ max_wire_len
unfolding wire_of
read_wires_are_short wire tx name e = go (nat_lt max_wire_len (length wire)) refl _ e
  where
    go : (b : Bool) → nat_lt max_wire_len (length wire) ≡ b → (r : Result Tx WireFault) → parsed_by (if b then Err TooLong else r) ≡ Good tx name → length wire ≤ max_wire_len
    go true l r e = absurd (cc)
    go false l r e = grind (arith, nat_tests)

module _ (start : Start) (batch : List Parsed) where
  abbrev standing_from : ℕ → List Parsed → List Chosen
  standing_from n rest = filter_map (λ entry. result_ok (sifted_in start batch entry)) (enumerate_from n rest)

  one_on : (n : ℕ) (done : List Parsed) (x : Parsed) → n ≡ length done → n + 1 ≡ length (done ++ x ∷ [])
  one_on n done x e = omega (arith, e, length-append done (x ∷ []))

  -- what holds of each that is sifted at a position holds of all that stand
  all_from : (P : Chosen → Type 0) → ((n : ℕ) (x : Parsed) (chosen : Chosen) → n < length batch → get_or batch n x ≡ x → sifted_in start batch (n, x) ≡ Ok chosen → P chosen)
      → (n : ℕ) (done rest : List Parsed) → n ≡ length done → done ++ rest ≡ batch → AllByRecursion P (standing_from n rest)
  all_from P each n done [] e whole = tt
  all_from P each n done (x ∷ rest) e whole = go (sifted_in start batch (n, x)) refl (all_from P each (n + 1) (done ++ x ∷ []) rest (one_on n done x e) (append_assoc done (x ∷ []) rest ∙ whole))
    where
      within : n < length batch
      within = omega (arith, e, ap length whole, length-append done (x ∷ rest))

      here : get_or batch n x ≡ x
      here = ap (λ (ls : List Parsed). get_or ls n x) (sym whole) ∙ get_or_at done x rest x n (sym e)

      go : (r : Result Chosen Refusal) → sifted_in start batch (n, x) ≡ r → AllByRecursion P (standing_from (n + 1) rest) → AllByRecursion P (cons_option (result_ok r) (standing_from (n + 1) rest))
      go (Err cause) er more = more
      go (Ok chosen) er more = (each n x chosen within here er, more)

  pub all_standing : (P : Chosen → Type 0)
      → ((n : ℕ) (x : Parsed) (chosen : Chosen) → n < length batch → get_or batch n x ≡ x
      → sifted_in start batch (n, x) ≡ Ok chosen → P chosen) → AllByRecursion P (sifted_out start batch)
  all_standing P each = all_from P each 0 [] batch refl refl

  -- the positions of those that stand ascend
  ascending_from : (n : ℕ) (rest : List Parsed) → AllByRecursion (λ one. n ≤ one.position) (standing_from n rest) × PositionsAscend (standing_from n rest)
  ascending_from n [] = (tt, tt)
  ascending_from n (x ∷ rest) = go (sifted_in start batch (n, x)) refl (ascending_from (n + 1) rest)
    where
      after : (m k : ℕ) → m < k → (others : List Chosen) → AllByRecursion (λ one. k ≤ one.position) others → AllByRecursion (λ one. m < one.position) others
      after m k l [] all = tt
      after m k l (one ∷ others) all = (omega (arith, l, all.0), after m k l others all.1)

      from : (others : List Chosen) → AllByRecursion (λ one. n + 1 ≤ one.position) others → AllByRecursion (λ one. n ≤ one.position) others
      from [] all = tt
      from (one ∷ others) all = (omega (arith, all.0), from others all.1)

      go : (r : Result Chosen Refusal) → sifted_in start batch (n, x) ≡ r → AllByRecursion (λ one. n + 1 ≤ one.position) (standing_from (n + 1) rest) × PositionsAscend (standing_from (n + 1) rest)
          → AllByRecursion (λ one. n ≤ one.position) (cons_option (result_ok r) (standing_from (n + 1) rest)) × PositionsAscend (cons_option (result_ok r) (standing_from (n + 1) rest))
      go (Err cause) er more = (from (standing_from (n + 1) rest) more.0, more.1)
      go (Ok chosen) er more =
          let place = (comes_from start (has_hash (standing_names start (take n batch))) n x chosen er).place in
          ((omega (arith, place), from (standing_from (n + 1) rest) more.0), (after chosen.position (n + 1) (omega (arith, place)) (standing_from (n + 1) rest) more.0, more.1))

  pub standing_positions_ascend : PositionsAscend (sifted_out start batch)
  standing_positions_ascend = (ascending_from 0 batch).1

  -- no two of those that stand have one name
  abbrev NotNamed : List Parsed → Chosen → Type 0
  NotNamed done one = has_hash (standing_names start done) one.name ≡ false

  names_from : (n : ℕ) (done rest : List Parsed) → n ≡ length done → done ++ rest ≡ batch
      → AllByRecursion (NotNamed done) (standing_from n rest)
      × IsDistinct same_hash (map (λ one. one.name) (standing_from n rest))
  unfolding IsDistinct
  names_from n done [] e whole = (tt, tt)
  names_from n done (x ∷ rest) e whole = go (sifted_in start batch (n, x)) refl (names_from (n + 1) (done ++ x ∷ []) rest (one_on n done x e) (append_assoc done (x ∷ []) rest ∙ whole))
    where
      before : take n batch ≡ done
      before = ap (take n) (sym whole) ∙ take_at done (x ∷ rest) n (sym e)

      split : (one : Chosen) → NotNamed (done ++ x ∷ []) one → NotNamed done one × (is_name (standing_name start x) one.name ≡ false)
      split one is = or_parts (has_hash (standing_names start done) one.name) (is_name (standing_name start x) one.name) (sym (one_name_more start done x one.name) ∙ is)

      fewer : (others : List Chosen) → AllByRecursion (NotNamed (done ++ x ∷ [])) others → AllByRecursion (NotNamed done) others
      fewer [] all = tt
      fewer (one ∷ others) all = ((split one all.0).0, fewer others all.1)

      others_differ : (name : Hash32) → standing_name start x ≡ Some name → (others : List Chosen)
          → AllByRecursion (NotNamed (done ++ x ∷ [])) others
          → AllByRecursion (λ other. same_hash name other ≡ false) (map (λ one. one.name) others)
      others_differ name is [] all = tt
      others_differ name is (one ∷ others) all = (subst (λ (o : Option Hash32). is_name o one.name ≡ false) is (split one all.0).1, others_differ name is others all.1)

      go : (r : Result Chosen Refusal) → sifted_in start batch (n, x) ≡ r
          → AllByRecursion (NotNamed (done ++ x ∷ [])) (standing_from (n + 1) rest) × IsDistinct same_hash (map (λ one. one.name) (standing_from (n + 1) rest))
          → AllByRecursion (NotNamed done) (cons_option (result_ok r) (standing_from (n + 1) rest))
          × IsDistinct same_hash (map (λ one. one.name)
          (cons_option (result_ok r) (standing_from (n + 1) rest)))
      go (Err cause) er more = (fewer (standing_from (n + 1) rest) more.0, more.1)
      go (Ok chosen) er more =
          let from = comes_from start (has_hash (standing_names start (take n batch))) n x chosen er in
          let new : NotNamed done chosen = ap (λ (ls : List Parsed). has_hash (standing_names start ls) chosen.name) (sym before) ∙ from.fresh in
          ((new, fewer (standing_from (n + 1) rest) more.0), (others_differ chosen.name from.named (standing_from (n + 1) rest) more.0, more.1))

  pub standing_names_differ : IsDistinct same_hash (map (λ one. one.name) (sifted_out start batch))
  standing_names_differ = (names_from 0 [] batch refl refl).1

nat_eq_flips : (x y : ℕ) → nat_eq x y ≡ nat_eq y x
nat_eq_flips x y = grind (arith, nat_tests)

-- ---- what the walk keeps
-- what holds of a list with one holds of the list without
abbrev Drops : (List Chosen → Type 0) → Type 0
Drops Q = (before : List Chosen) (one : Chosen) (left : List Chosen) → Q (before ++ one ∷ left) → Q (before ++ left)

kept_walked : (Q : List Chosen → Type 0) → Drops Q → (limits : Limits) (before : Walk) (left : List Chosen)
    → Q (before.order ++ left) → Q
    (fold (λ before one. walk_with before one (late limits before.order one)) before left).order
kept_walked Q drops limits before [] q = subst Q (append-nil before.order) q
kept_walked Q drops limits before (one ∷ left) q = kept_walked Q drops limits (walk_with before one (late limits before.order one)) left (go (late limits before.order one))
  where
    go : (o : Option Refusal) → Q ((walk_with before one o).order ++ left)
    go None = subst Q (sym (append_assoc before.order (one ∷ []) left)) q
    go (Some cause) = drops before.order one left q

kept_run : (Q : List Chosen → Type 0) → Drops Q → (limits : Limits) (line : List Chosen) → Q line → Q (walk limits line).order
kept_run Q drops limits line q = kept_walked Q drops limits (record { order = []; refused = [] }) line q

names_dropped : Drops (λ line. IsDistinct same_hash (map (λ one. one.name) line))
unfolding IsDistinct
names_dropped [] one left differ = differ.1
names_dropped (other ∷ before) one left differ = (go before differ.0, names_dropped before one left differ.1)
  where
    go : (before : List Chosen) → AllByRecursion (λ name. same_hash other.name name ≡ false)
        (map (λ one. one.name) (before ++ one ∷ left))
        → AllByRecursion (λ name. same_hash other.name name ≡ false) (map (λ one. one.name) (before ++ left))
    go [] all = all.1
    go (next ∷ before) all = (all.0, go before all.1)

all_dropped : (P : Chosen → Type 0) → Drops (AllByRecursion P)
all_dropped P [] one left all = all.1
all_dropped P (other ∷ before) one left all = (all.0, all_dropped P before one left all.1)

positions_dropped : Drops (λ line. IsDistinct nat_eq (map (λ one. one.position) line))
unfolding IsDistinct
positions_dropped [] one left differ = differ.1
positions_dropped (other ∷ before) one left differ = (go before differ.0, positions_dropped before one left differ.1)
  where
    go : (before : List Chosen) → AllByRecursion (λ position. nat_eq other.position position ≡ false)
        (map (λ one. one.position) (before ++ one ∷ left))
        → AllByRecursion (λ position. nat_eq other.position position ≡ false)
        (map (λ one. one.position) (before ++ left))
    go [] all = all.1
    go (next ∷ before) all = (all.0, go before all.1)

-- one of a list whose positions differ is apart from all others
one_apart : (before : List Chosen) (one : Chosen) (left : List Chosen)
    → IsDistinct nat_eq (map (λ one. one.position) (before ++ one ∷ left))
    → AllByRecursion (λ position. nat_eq one.position position ≡ false)
    (map (λ one. one.position) (before ++ left))
unfolding IsDistinct
one_apart [] one left differ = differ.0
one_apart (other ∷ before) one left differ = (nat_eq_flips one.position other.position ∙ go before differ.0, one_apart before one left differ.1)
  where
    go : (before : List Chosen) → AllByRecursion (λ position. nat_eq other.position position ≡ false) (map (λ one. one.position) (before ++ one ∷ left)) → nat_eq other.position one.position ≡ false
    go [] all = all.0
    go (next ∷ before) all = go before all.1

pairs_dropped : Drops Ranked
pairs_dropped [] one left ranked = ranked.1
pairs_dropped (other ∷ before) one left ranked = (go before ranked.0, pairs_dropped before one left ranked.1)
  where
    go : (before : List Chosen) → AllByRecursion (StandsBefore other) (before ++ one ∷ left) → AllByRecursion (StandsBefore other) (before ++ left)
    go [] all = all.1
    go (next ∷ before) all = (all.0, go before all.1)

-- ---- positions of refused ones
one_lower : (n : ℕ) (refused : List Refused) → AllByRecursion (λ one. n + 1 ≤ one.position) refused → AllByRecursion (λ one. n ≤ one.position) refused
one_lower n [] all = tt
one_lower n (one ∷ others) all = (omega (arith, all.0), one_lower n others all.1)

all_above : (n : ℕ) (refused : List Refused) → AllByRecursion (λ one. n + 1 ≤ one.position) refused → AllByRecursion (λ one. n < one.position) refused
all_above n [] all = tt
all_above n (one ∷ others) all = (omega (arith, all.0), all_above n others all.1)

all_differ : (n : ℕ) (refused : List Refused) → AllByRecursion (λ one. n + 1 ≤ one.position) refused → AllByRecursion (λ one. n + 0 ≢ one.position) refused
all_differ n [] all = tt
all_differ n (one ∷ others) all = (λ e. omega (arith, e, all.0), all_differ n others all.1)

moved : (n i : ℕ) (refused : List Refused) → AllByRecursion (λ one. n + 1 + i ≢ one.position) refused → AllByRecursion (λ one. n + suc i ≢ one.position) refused
moved n i [] all = tt
moved n i (one ∷ others) all = (λ e. all.0 (omega (arith, e)), moved n i others all.1)

-- ---- how many positions have a cause
-- how many have none
abbrev free : List (Option Refusal) → ℕ
free [] = 0
free (None ∷ causes) = free causes + 1
free (Some cause ∷ causes) = free causes

free_set : (causes : List (Option Refusal)) (i : ℕ) (cause : Refusal) → i < length causes → get_or causes i None ≡ None → free (set causes i (Some cause)) + 1 ≡ free causes
free_set [] i cause l none = absurd (omega arith)
free_set (None ∷ causes) zero cause l none = refl
free_set (Some other ∷ causes) zero cause l none = absurd (cc)
free_set (None ∷ causes) (suc i) cause l none = let more = free_set causes i cause (omega arith) none in omega (arith, more)
free_set (Some other ∷ causes) (suc i) cause l none = free_set causes i cause (omega arith) none

numbered_count : (n : ℕ) (causes : List (Option Refusal)) → length (filter_map numbered_at (enumerate_from n causes)) + free causes ≡ length causes
numbered_count n [] = refl
numbered_count n (None ∷ causes) = let more = numbered_count (n + 1) causes in omega (arith, more)
numbered_count n (Some cause ∷ causes) = let more = numbered_count (n + 1) causes in omega (arith, more)

numbered_below : (n to : ℕ) (causes : List (Option Refusal)) → n + length causes ≡ to → AllByRecursion (λ refused. refused.position < to) (filter_map numbered_at (enumerate_from n causes))
numbered_below n to [] e = tt
numbered_below n to (None ∷ causes) e = numbered_below (n + 1) to causes (omega (arith, e))
numbered_below n to (Some cause ∷ causes) e = (omega (arith, e), numbered_below (n + 1) to causes (omega (arith, e)))

-- they ascend
numbered_from : (n : ℕ) (causes : List (Option Refusal)) → AllByRecursion (λ refused. n ≤ refused.position) (filter_map numbered_at (enumerate_from n causes))
numbered_from n [] = tt
numbered_from n (None ∷ causes) = one_lower n (filter_map numbered_at (enumerate_from (n + 1) causes)) (numbered_from (n + 1) causes)
numbered_from n (Some cause ∷ causes) = (omega arith, one_lower n (filter_map numbered_at (enumerate_from (n + 1) causes)) (numbered_from (n + 1) causes))

numbered_ascend : (n : ℕ) (causes : List (Option Refusal)) → AllPairs (λ one other. one.position < other.position) (filter_map numbered_at (enumerate_from n causes))
numbered_ascend n [] = λ i j d before within. absurd (omega (arith, within))
numbered_ascend n (None ∷ causes) = numbered_ascend (n + 1) causes
numbered_ascend n (Some cause ∷ causes) =
    let others = filter_map numbered_at (enumerate_from (n + 1) causes) in
    let above = all_above n others (numbered_from (n + 1) causes) in
    AllPairs-cons (λ (one other : Refused). one.position < other.position)
    (record { position = n; cause = cause }) others
    (All-from_recursion (λ (other : Refused). n < other.position) others above)
    (numbered_ascend (n + 1) causes)

-- none of them is at a position that has no cause
not_numbered : (n i : ℕ) (causes : List (Option Refusal)) → get_or causes i None ≡ None → AllByRecursion (λ refused. n + i ≢ refused.position) (filter_map numbered_at (enumerate_from n causes))
not_numbered n i [] none = tt
not_numbered n zero (None ∷ causes) none = all_differ n (filter_map numbered_at (enumerate_from (n + 1) causes)) (numbered_from (n + 1) causes)
not_numbered n (suc i) (None ∷ causes) none = moved n i (filter_map numbered_at (enumerate_from (n + 1) causes)) (not_numbered (n + 1) i causes none)
not_numbered n zero (Some cause ∷ causes) none = absurd (cc)
not_numbered n (suc i) (Some cause ∷ causes) none = (λ e. omega (arith, e), moved n i (filter_map numbered_at (enumerate_from (n + 1) causes)) (not_numbered (n + 1) i causes none))

-- the cause of a position after those of the walk
late_at : (refused : List Refused) (causes : List (Option Refusal)) (i : ℕ) → i < length causes → get_or (with_late refused causes) i None ≡ or_else (late_cause refused i) (get_or causes i None)
late_at refused causes i l =
    let within : i < length (enumerate_from 0 causes) = rw (length-enumerate_from 0 causes) l in
    let entry : get_or (enumerate_from 0 causes) i (i, None) ≡ (i, get_or causes i None) = get_or-enumerate_from 0 causes i (i, None) l ∙ (λ j. (zero-add i j, get_or causes i None)) in
    get_or-map (cause_with refused) (enumerate_from 0 causes) i (i, None) None within ∙ ap (cause_with refused) entry

-- a transaction whose position has no cause
record IsFree (refused : List Refused) (causes : List (Option Refusal)) (one : Chosen) : Type 0 where
  pub below : one.position < length causes
  pub early : get_or causes one.position None ≡ None
  pub late : late_cause refused one.position ≡ None

free_is_none : (refused : List Refused) (causes : List (Option Refusal)) (one : Chosen) → IsFree refused causes one → get_or (with_late refused causes) one.position None ≡ None
free_is_none refused causes one is = late_at refused causes one.position is.below ∙ ap (λ (o : Option Refusal). or_else o (get_or causes one.position None)) is.late ∙ is.early

module _ (limits : Limits) (causes : List (Option Refusal)) where
  refused_more : (refused : List Refused) (one : Chosen) (cause : Refusal) → IsFree refused causes one
      → free (with_late (record { position = one.position; cause = cause } ∷ refused) causes) + 1
      ≡ free (with_late refused causes)
  refused_more refused one cause is =
      let within : one.position < length (with_late refused causes) = rw (count_late refused causes) is.below in
      let none = free_is_none refused causes one is in
      ap (λ cs. free cs + 1) (sym (late_more refused (record { position = one.position; cause = cause }) causes is.below)) ∙ free_set (with_late refused causes) one.position cause within none

  others_free : (refused : List Refused) (one : Chosen) (cause : Refusal) (left : List Chosen)
      → AllByRecursion (λ position. nat_eq one.position position ≡ false) (map (λ other. other.position) left)
      → AllByRecursion (IsFree refused causes) left
      → AllByRecursion (IsFree (record { position = one.position; cause = cause } ∷ refused) causes) left
  others_free refused one cause [] apart all = tt
  others_free refused one cause (other ∷ left) apart all =
      let late : late_cause (record { position = one.position; cause = cause } ∷ refused) other.position
      ≡ None = ap (λ b. if b then Some cause else late_cause refused other.position) apart.0 ∙ all.0.late in
      (record { below = all.0.below; early = all.0.early; late = late }, others_free refused one cause left apart.1 all.1)

  -- those that run are free of what was refused
  ran_free : (before : Walk) (left : List Chosen) → AllByRecursion (IsFree before.refused causes) (before.order ++ left) → IsDistinct nat_eq (map (λ one. one.position) (before.order ++ left))
      → AllByRecursion (IsFree (fold (λ before one. walk_with before one (late limits before.order one)) before
      left).refused causes) (fold (λ before one. walk_with before one (late limits before.order one)) before
      left).order
  ran_free before [] all apart = subst (AllByRecursion (IsFree before.refused causes)) (append-nil before.order) all
  ran_free before (one ∷ left) all apart = go (late limits before.order one) (λ walk. ran_free walk left)
    where
      Free : Walk → Type 0
      Free walk = AllByRecursion (IsFree walk.refused causes) (walk.order ++ left) → IsDistinct nat_eq (map (λ one. one.position) (walk.order ++ left))
          → AllByRecursion (IsFree (fold (λ before one. walk_with before one (late limits before.order one))
          walk left).refused causes) (fold
          (λ before one. walk_with before one (late limits before.order one)) walk left).order

      go : (o : Option Refusal) → ((walk : Walk) → Free walk)
          → AllByRecursion (IsFree (fold (λ before one. walk_with before one (late limits before.order one)) (walk_with before one o) left).refused causes)
          (fold (λ before one. walk_with before one (late limits before.order one)) (walk_with before one o) left).order
      go None more =
          let same : before.order ++ one ∷ left ≡ (before.order ++ one ∷ []) ++ left = sym (append_assoc before.order (one ∷ []) left) in
          more (walk_with before one None) (subst (AllByRecursion (IsFree before.refused causes)) same all)
          (subst (λ (line : List Chosen). IsDistinct nat_eq (map (λ one. one.position) line)) same apart)
      go (Some cause) more =
          more (walk_with before one (Some cause))
          (others_free before.refused one cause (before.order ++ left) (one_apart before.order one left apart) (all_dropped (IsFree before.refused causes) before.order one left all))
          (positions_dropped before.order one left apart)

  free_walked : (before : Walk) (left : List Chosen) → AllByRecursion (IsFree before.refused causes) left
      → IsDistinct nat_eq (map (λ one. one.position) left)
      → free (with_late before.refused causes) ≡ length before.order + length left
      → free (with_late (fold (λ before one. walk_with before one (late limits before.order one)) before
      left).refused causes) ≡ length
      (fold (λ before one. walk_with before one (late limits before.order one)) before left).order
  unfolding IsDistinct
  free_walked before [] all apart count = omega (arith, count)
  free_walked before (one ∷ left) all apart count = go (late limits before.order one) (λ walk. free_walked walk left)
    where
      Counts : Walk → Type 0
      Counts walk = AllByRecursion (IsFree walk.refused causes) left → IsDistinct nat_eq (map (λ one. one.position) left) → free (with_late walk.refused causes) ≡ length walk.order + length left
          → free (with_late (fold (λ before one. walk_with before one (late limits before.order one)) walk
          left).refused causes) ≡ length
          (fold (λ before one. walk_with before one (late limits before.order one)) walk left).order

      go : (o : Option Refusal) → ((walk : Walk) → Counts walk)
          → free (with_late (fold (λ before one. walk_with before one (late limits before.order one)) (walk_with before one o) left).refused causes)
          ≡ length (fold (λ before one. walk_with before one (late limits before.order one)) (walk_with before one o) left).order
      go None more = more (walk_with before one None) all.1 apart.1 (omega (arith, count, length-append before.order (one ∷ [])))
      go (Some cause) more = more (walk_with before one (Some cause))
          (others_free before.refused one cause left apart.0 all.1) apart.1
          (let fewer = refused_more before.refused one cause all.0 in omega (arith, count, fewer))

-- no refused position is one that is free
apart_from : (refused : List Refused) (causes : List (Option Refusal)) (order : List Chosen) → AllByRecursion (IsFree refused causes) order
    → All (λ one. All (λ chosen. chosen.position ≢ one.position) order) (numbered_in (with_late refused causes))
apart_from refused causes order free = λ k d within i e inside. All-from_recursion
    (λ chosen. All (λ one. chosen.position ≢ one.position) (numbered_in (with_late refused causes))) order
    (go order free) i e inside k d within
  where
    go : (order : List Chosen) → AllByRecursion (IsFree refused causes) order → AllByRecursion (λ chosen. All (λ one. chosen.position ≢ one.position) (numbered_in (with_late refused causes))) order
    go [] free = tt
    go (chosen ∷ others) free = (
      All-from_recursion (λ (one : Refused). chosen.position ≢ one.position)
          (numbered_in (with_late refused causes))
          (rw (← zero-add chosen.position)
          (not_numbered 0 chosen.position (with_late refused causes)
          (free_is_none refused causes chosen free.0))),
      go others free.1,
    )

-- positions that ascend differ
positions_differ : (standing : List Chosen) → PositionsAscend standing → IsDistinct nat_eq (map (λ one. one.position) standing)
unfolding IsDistinct
positions_differ [] up = tt
positions_differ (one ∷ others) up = (go others up.0, positions_differ others up.1)
  where
    go : (others : List Chosen) → AllByRecursion (λ other. one.position < other.position) others
        → AllByRecursion (λ position. nat_eq one.position position ≡ false)
        (map (λ other. other.position) others)
    go [] all = tt
    go (other ∷ others) all = (ne_eqb one.position other.position (λ e. omega (arith, e, all.0)), go others all.1)

hash_flips : (x y : Hash32) → same_hash x y ≡ same_hash y x
hash_flips x y = by_test (same_hash x y) refl
  where
    by_test : (b : Bool) → same_hash x y ≡ b → b ≡ same_hash y x
    by_test true same = sym ((same_hash-Decides y x).1 (sym ((same_hash-Decides x y).0 same)))
    by_test false differ = sym (false_from_ne_true (same_hash y x) (λ e. both_ways (same_hash x y) differ ((same_hash-Decides x y).1 (sym ((same_hash-Decides y x).0 e)))))

-- ---- the parts of a batch
module _ (start : Start) (wires : List (List ℕ)) where
  abbrev batch : List Parsed
  batch = map parsed_of wires

  abbrev causes : List (Option Refusal)
  causes = map (early start batch) (enumerate_from 0 batch)

  cause_count : length causes ≡ length wires
  cause_count = simp (length-map, length-enumerate_from)

  each_of : AllByRecursion (IsOf wires) (sifted_out start batch)
  each_of = all_standing start batch (IsOf wires) (λ n x chosen within here e.
      let from = comes_from start (has_hash (standing_names start (take n batch))) n x chosen e in
      let below : n < length wires = rw (sym (length-map wires parsed_of)) within in
      let wire : get_or wires chosen.position [] ≡ get_or wires n [] = ap (λ i. get_or wires i []) from.place in
      let read : parsed_of (get_or wires chosen.position []) ≡ Good chosen.tx chosen.name = ap parsed_of wire ∙ sym (get_or-map parsed_of wires n [] x below) ∙ here ∙ from.read in
      record { below = subst (λ i. i < length wires) (sym from.place) below; read = read; short = read_wires_are_short (get_or wires chosen.position []) chosen.tx chosen.name read })

  each_free : AllByRecursion (IsFree [] causes) (sifted_out start batch)
  each_free = all_standing start batch (IsFree [] causes) (λ n x chosen within here e.
      let from = comes_from start (has_hash (standing_names start (take n batch))) n x chosen e in
      let among : n < length (enumerate_from 0 batch) = rw (length-enumerate_from 0 batch) within in
      let entry : get_or (enumerate_from 0 batch) n (n, x) ≡ (n, x) = get_or-enumerate_from 0 batch n (n, x) within ∙ (λ j. (zero-add n j, here j)) in
      let none : get_or causes n None ≡ None = get_or-map (early start batch) (enumerate_from 0 batch) n (n, x) None among ∙ ap (early start batch) entry ∙ ap refusal_in e in
      record { below = omega (arith, from.place, within, cause_count, length-map wires parsed_of); early = ap (λ i. get_or causes i None) from.place ∙ none; late = refl })

  free_standing : (n : ℕ) (rest : List Parsed) → free (map (early start batch) (enumerate_from n rest)) ≡ length (standing_from start batch n rest)
  free_standing n [] = refl
  free_standing n (x ∷ rest) = go (sifted_in start batch (n, x)) (free_standing (n + 1) rest)
    where
      go : (r : Result Chosen Refusal) → free (map (early start batch) (enumerate_from (n + 1) rest)) ≡ length (standing_from start batch (n + 1) rest)
          → free (refusal_in r ∷ map (early start batch) (enumerate_from (n + 1) rest)) ≡ length (cons_option (result_ok r) (standing_from start batch (n + 1) rest))
      go (Err cause) more = more
      go (Ok chosen) more = omega (arith, more)

  in_place : (P : Chosen → Type 0) (found : List Chosen) → IsPermutation (sifted_out start batch) found → AllByRecursion P (sifted_out start batch) → AllByRecursion P found
  in_place P found same all = recursion_from_All P found (All-permutation P (sifted_out start batch) found same (All-from_recursion P (sifted_out start batch) all))

  parted : (found : List Chosen) → IsPermutation (sifted_out start batch) found → IsParted wires (answer_of start batch (walk start.limits found))
  parted found same =
      let after = walk start.limits found in
      let refused : numbered_in (with_late after.refused causes) ≡ refused_in start batch after.refused = refused_by_causes start batch after.refused in
      let names = IsDistinct-IsPermutation same_hash hash_flips (map (λ one. one.name) (sifted_out start batch))
      (map (λ one. one.name) found)
      (IsPermutation-map (λ one. one.name) (sifted_out start batch) found same)
      (standing_names_differ start batch) in
      let positions = IsDistinct-IsPermutation nat_eq nat_eq_flips
      (map (λ one. one.position) (sifted_out start batch)) (map (λ one. one.position) found)
      (IsPermutation-map (λ one. one.position) (sifted_out start batch) found same)
      (positions_differ (sifted_out start batch) (standing_positions_ascend start batch)) in
      let stands : free (with_late [] causes) ≡ length found = ap free (sym (none_late causes)) ∙ free_standing 0 batch ∙ sym (length_permutation (sifted_out start batch) found same) in
      let ran : free (with_late after.refused causes)
      ≡ length after.order = free_walked start.limits causes (record { order = []; refused = [] }) found
      (in_place (IsFree [] causes) found same each_free) positions (omega (arith, stands)) in
      let all_free : AllByRecursion (IsFree after.refused causes) after.order = ran_free start.limits causes
      (record { order = []; refused = [] }) found (in_place (IsFree [] causes) found same each_free)
      positions in
      let all : length (numbered_in (with_late after.refused causes)) + free (with_late after.refused causes)
      ≡ length (with_late after.refused causes) = numbered_count 0 (with_late after.refused causes) in
      let late_count : length (with_late after.refused causes) ≡ length wires = count_late after.refused causes ∙ cause_count in
      let lower = All-from_recursion (λ (one : Refused). one.position < length wires)
      (numbered_in (with_late after.refused causes))
      (numbered_below 0 (length wires) (with_late after.refused causes) (omega (arith, late_count))) in
      record {
        each = All-from_recursion (IsOf wires) after.order (all_run (IsOf wires) start.limits found (in_place (IsOf wires) found same each_of));
        apart = kept_run (λ line. IsDistinct same_hash (map (λ one. one.name) line)) names_dropped start.limits found names;
        once = kept_run (λ line. IsDistinct nat_eq (map (λ one. one.position) line)) positions_dropped start.limits found positions;
        below = subst (All (λ one. one.position < length wires)) refused lower;
        ascending = subst (AllPairs (λ one other. one.position < other.position)) refused (numbered_ascend 0 (with_late after.refused causes));
        others = subst (All (λ (one : Refused). All (λ chosen. chosen.position ≢ one.position) after.order)) refused (apart_from after.refused causes after.order all_free);
        count = omega (arith, ran, all, late_count, ap length refused);
      }

-- a batch by priority is parted
pub admitted_batches_are_parted : (start : Start) (wires : List (List ℕ)) → IsParted wires (admitted start wires)
unfolding admitted
admitted_batches_are_parted start wires = parted start wires (line (sifted_out start (map parsed_of wires))) (line_permutes (sifted_out start (map parsed_of wires)))

-- and so is one by position
pub listed_batches_are_parted : (start : Start) (wires : List (List ℕ)) → IsParted wires (listed start wires)
unfolding listed
listed_batches_are_parted start wires = parted start wires (sifted_out start (map parsed_of wires)) (IsPermutation-refl (sifted_out start (map parsed_of wires)))

-- those that run stand by their priorities
pub batches_run_by_priority : (start : Start) (wires : List (List ℕ)) → AllPairs StandsBefore (admitted start wires).order
unfolding admitted
batches_run_by_priority start wires =
    let standing = sifted_out start (map parsed_of wires) in
    pairs_ranked (walk start.limits (line standing)).order (kept_run Ranked pairs_dropped start.limits (line standing) (line_ranked standing (standing_positions_ascend start (map parsed_of wires))))
