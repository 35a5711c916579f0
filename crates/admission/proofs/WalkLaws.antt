-- The walk of a line, one transaction after the other, and the causes that it leaves.
use Rattle.std.proofs.Common.{◌≡◌, ℕ, zero, suc, ◌+◌, ◌<◌, ◌≤◌, true, false, cond, List, [], ◌∷◌, ◌++◌, length, map, take, get_or, set, refl, sym, ap, ◌∙◌, append_assoc, arith, zero-add, Option, Some, None, option_map, eqb, eq-eqb, ne_eqb}
use Rattle.std.specs.List.{enumerate_from, filter_map, cons_option}
use Rattle.std.proofs.lemmas.List.{length-map, take_all, take_more}
use Rattle.std.proofs.lemmas.List.Elements.{filter_map-append}
use Rattle.std.proofs.lemmas.List.FromFn.{get_or-enumerate_from, length-enumerate_from}
use Rattle.std.proofs.lemmas.List.Sums.{fold-append}
use Rattle.sol_base.specs.declared.limits.Limits.{Limits}
use Rattle.message_codec.specs.declared.parsed.Parsed.{Parsed}
use Rattle.admission.specs.declared.chosen.Chosen.{Chosen}
use Rattle.admission.specs.declared.refusal.Refusal.{Refusal}
use Rattle.admission.specs.declared.refusal.Refused.{Refused}
use Rattle.admission.specs.Admission.{Start, Walk, early, late, late_cause, or_else, refusal, refused_in, walk, walk_with}
use Rattle.admission.specs.Sums.{cause_with, numbered_at, numbered_in, with_late}

pub walk_more : (limits : Limits) (done : List Chosen) (one : Chosen) → walk limits (done ++ one ∷ []) ≡ walk_with (walk limits done) one (late limits (walk limits done).order one)
walk_more limits done one = fold-append (λ (before : Walk) (one : Chosen). walk_with before one (late limits before.order one)) (record { order = []; refused = [] }) done (one ∷ [])

-- ---- the causes
same_with : (refused : List Refused) (one : Refused) (n : ℕ) (causes : List (Option Refusal)) → one.position < n
    → map (cause_with (one ∷ refused)) (enumerate_from n causes)
    ≡ map (cause_with refused) (enumerate_from n causes)
same_with refused one n [] l = refl
same_with refused one n (cause ∷ causes) l =
    let other : eqb one.position n ≡ false = ne_eqb one.position n (λ e. omega arith) in
    ap (λ b. or_else (cond b (Some one.cause) (late_cause refused n)) cause ∷ map (cause_with (one ∷ refused)) (enumerate_from (n + 1) causes)) other
    ∙ ap (λ more. or_else (late_cause refused n) cause ∷ more) (same_with refused one (n + 1) causes (omega arith))

set_from : (refused : List Refused) (one : Refused) (n k : ℕ) (causes : List (Option Refusal))
    → one.position ≡ n + k → k < length causes
    → set (map (cause_with refused) (enumerate_from n causes)) k (Some one.cause)
    ≡ map (cause_with (one ∷ refused)) (enumerate_from n causes)
set_from refused one n k [] e l = absurd (omega arith)
set_from refused one n zero (cause ∷ causes) e l =
    let here : eqb one.position n ≡ true = eq-eqb one.position n (omega arith) in
    ap (λ more. Some one.cause ∷ more) (sym (same_with_more))
    ∙ ap (λ b. or_else (cond b (Some one.cause) (late_cause refused n)) cause
    ∷ map (cause_with (one ∷ refused)) (enumerate_from (n + 1) causes)) (sym here)
  where
    same_with_more : map (cause_with (one ∷ refused)) (enumerate_from (n + 1) causes) ≡ map (cause_with refused) (enumerate_from (n + 1) causes)
    same_with_more = same_with refused one (n + 1) causes (omega arith)
set_from refused one n (suc k) (cause ∷ causes) e l =
    let other : eqb one.position n ≡ false = ne_eqb one.position n (λ q. omega arith) in
    ap (λ more. or_else (late_cause refused n) cause ∷ more) (set_from refused one (n + 1) k causes (omega arith) (omega arith))
    ∙ ap (λ b. or_else (cond b (Some one.cause) (late_cause refused n)) cause ∷ map (cause_with (one ∷ refused)) (enumerate_from (n + 1) causes)) (sym other)

-- a late cause takes its place
pub late_more : (refused : List Refused) (one : Refused) (causes : List (Option Refusal))
    → one.position < length causes
    → set (with_late refused causes) one.position (Some one.cause) ≡ with_late (one ∷ refused) causes
late_more refused one causes l = set_from refused one 0 one.position causes (omega arith) l

none_from : (n : ℕ) (causes : List (Option Refusal)) → causes ≡ map (cause_with []) (enumerate_from n causes)
none_from n [] = refl
none_from n (cause ∷ causes) = ap (λ more. cause ∷ more) (none_from (n + 1) causes)

pub none_late : (causes : List (Option Refusal)) → causes ≡ with_late [] causes
none_late causes = none_from 0 causes

pub count_late : (refused : List Refused) (causes : List (Option Refusal)) → length (with_late refused causes) ≡ length causes
count_late refused causes = simp (length-map, length-enumerate_from)

-- the causes of a batch, and their positions
causes_from : (start : Start) (batch : List Parsed) (refused : List Refused) (n : ℕ) (rest : List Parsed)
    → map (cause_with refused) (enumerate_from n (map (early start batch) (enumerate_from n rest)))
    ≡ map (refusal start batch refused) (enumerate_from n rest)
causes_from start batch refused n [] = refl
causes_from start batch refused n (x ∷ rest) = ap (λ more. refusal start batch refused (n, x) ∷ more) (causes_from start batch refused (n + 1) rest)

numbered_from : (start : Start) (batch : List Parsed) (refused : List Refused) (n : ℕ) (rest : List Parsed)
    → filter_map numbered_at (enumerate_from n (map (refusal start batch refused) (enumerate_from n rest)))
    ≡ filter_map (λ entry. option_map (λ (cause : Refusal). let one : Refused = record { position = entry.0; cause = cause } in one) (refusal start batch refused entry)) (enumerate_from n rest)
numbered_from start batch refused n [] = refl
numbered_from start batch refused n (x ∷ rest) = ap (λ more. cons_option (numbered_at (n, refusal start batch refused (n, x))) more) (numbered_from start batch refused (n + 1) rest)

pub refused_by_causes : (start : Start) (batch : List Parsed) (refused : List Refused)
    → numbered_in (with_late refused (map (early start batch) (enumerate_from 0 batch)))
    ≡ refused_in start batch refused
refused_by_causes start batch refused = ap numbered_in (causes_from start batch refused 0 batch) ∙ numbered_from start batch refused 0 batch

-- ---- one transaction after the other
-- the first transactions of a line are walked
pub record AreWalked (limits : Limits) (line done left order : List Chosen) (first causes : List (Option Refusal)) : Type 0 where
  pub all : done ++ left ≡ line
  pub ordered : order ≡ (walk limits done).order
  pub caused : causes ≡ with_late (walk limits done).refused first

module _ (limits : Limits) (line done left more order : List Chosen) (first causes : List (Option Refusal))
    (so_far : AreWalked limits line done left order first causes) (one : Chosen) (next : left ≡ one ∷ more)
  where
    pub split : done ++ one ∷ more ≡ line
    split = ap (λ (ls : List Chosen). done ++ ls) (sym next) ∙ so_far.all

    all_more : (done ++ one ∷ []) ++ more ≡ line
    all_more = append_assoc done (one ∷ []) more ∙ split

    walk_by : (o : Option Refusal) → late limits order one ≡ o → walk limits (done ++ one ∷ []) ≡ walk_with (walk limits done) one o
    walk_by o is = walk_more limits done one ∙ ap (walk_with (walk limits done) one) (ap (λ (ls : List Chosen). late limits ls one) (sym so_far.ordered) ∙ is)

    pub same_count : length causes ≡ length first
    same_count = ap length so_far.caused ∙ count_late (walk limits done).refused first

    -- a late cause
    pub walked_late : (cause : Refusal) (causes' : List (Option Refusal)) → late limits order one ≡ Some cause
        → one.position < length first → causes' ≡ set causes one.position (Some cause)
        → AreWalked limits line (done ++ one ∷ []) more order first causes'
    walked_late cause causes' is below put = record {
      all = all_more;
      ordered = so_far.ordered ∙ ap (λ (w : Walk). w.order) (sym (walk_by (Some cause) is));
      caused =
          put ∙ ap (λ cs. set cs one.position (Some cause)) so_far.caused
          ∙ late_more (walk limits done).refused (record { position = one.position; cause = cause }) first below
          ∙ ap (λ (w : Walk). with_late w.refused first) (sym (walk_by (Some cause) is));
    }

-- one more cause is numbered
pub numbered_more : (causes : List (Option Refusal)) (i : ℕ) (o : Option Refusal)
    (refused refused' : List Refused) → i < length causes → o ≡ get_or causes i None
    → refused ≡ filter_map numbered_at (take i (enumerate_from 0 causes))
    → refused' ≡ refused ++ cons_option (numbered_at (i, o)) [] → refused' ≡ filter_map numbered_at (take (i + 1) (enumerate_from 0 causes))
numbered_more causes i o refused refused' l is so_far more =
    let entry : get_or (enumerate_from 0 causes) i (i, None) ≡ (i, o) = get_or-enumerate_from 0 causes i (i, None) l ∙ (λ j. (zero-add i j, sym is j)) in
    let within : i < length (enumerate_from 0 causes) = rw (length-enumerate_from 0 causes) l in
    more ∙ ap (λ (rs : List Refused). rs ++ cons_option (numbered_at (i, o)) []) so_far
    ∙ sym (ap (filter_map numbered_at) (take_more (enumerate_from 0 causes) i (i, None) within ∙ ap (λ e. take i (enumerate_from 0 causes) ++ e ∷ []) entry)
    ∙ filter_map-append numbered_at (take i (enumerate_from 0 causes)) ((i, o) ∷ []))

pub numbered_all : (causes : List (Option Refusal)) (i : ℕ) (refused : List Refused) → length causes ≤ i
    → refused ≡ filter_map numbered_at (take i (enumerate_from 0 causes)) → refused ≡ numbered_in causes
numbered_all causes i refused over so_far =
    let long : length (enumerate_from 0 causes) ≤ i = rw (length-enumerate_from 0 causes) over in
    so_far ∙ ap (filter_map numbered_at) (take_all i (enumerate_from 0 causes) long)
