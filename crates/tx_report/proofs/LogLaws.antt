-- Logs and the lines that were given.
use Rattle.std.proofs.Common.{◌≡◌, ◌+◌, ◌<◌, ◌≤◌, ℕ, List, [], ◌∷◌, ◌++◌, length, take, sum_by, true, false, refl, sym, ap, subst, ◌∙◌, lit≤, inl, inr, arith}
use Rattle.std.specs.Prelude.{nat_le}
use Rattle.std.specs.List.{AllByRecursion}
use Rattle.std.proofs.lemmas.Bool.{cases_Bool}
use Rattle.std.proofs.lemmas.Bool.Decides.{nat_tests, leb_tells}
use Rattle.std.proofs.lemmas.List.{take-append-le, length-append}
use Rattle.std.proofs.lemmas.List.Sums.{sum_by_push}
use Rattle.std.proofs.Math.Seq.{take-append_seam, take-append-add, take-length}
use Rattle.tx_report.specs.LogLines.{Log, no_lines, with_line, truncated_line, IsLogOf, IsSmall, max_log_bytes}

-- a line with no room left for it
pub with_line-full : (log : Log) (line : List ℕ) → log.truncated ≡ false
    → max_log_bytes < sum_by length log.lines + length line
    → with_line log line ≡ record { lines = log.lines ++ truncated_line ∷ []; truncated = true }
with_line-full log line whole full =
    let none : nat_le (sum_by length log.lines + length line) max_log_bytes ≡ false = grind (arith, nat_tests) in
    rw (whole, none) refl

-- a line with room for it
pub with_line-room : (log : Log) (line : List ℕ) → log.truncated ≡ false
    → sum_by length log.lines + length line ≤ max_log_bytes
    → with_line log line ≡ record { lines = log.lines ++ line ∷ []; truncated = false }
with_line-room log line whole room =
    let some : nat_le (sum_by length log.lines + length line) max_log_bytes ≡ true = grind (arith, nat_tests) in
    rw (whole, some) refl

pub with_line-truncated : (log : Log) (line : List ℕ) → log.truncated ≡ true → with_line log line ≡ log
with_line-truncated log line cut = rw cut refl

pub IsLogOf-no_lines : IsLogOf [] no_lines
IsLogOf-no_lines = record { count = 0; room = lit≤ tt; all = λ _. (refl, refl); cut = λ e. absurd (cc) }

whole_take : (given : List (List ℕ)) (line : List ℕ) → take (length given + 1) (given ++ line ∷ []) ≡ given ++ line ∷ []
whole_take given line = take-append-add given (line ∷ []) 1

still_cut : (given : List (List ℕ)) (log : Log) (line : List ℕ) → log.truncated ≡ true → IsLogOf given log → IsLogOf (given ++ line ∷ []) log
still_cut given log line cut is =
    let was = is.cut cut in
    let same : take is.count (given ++ line ∷ []) ≡ take is.count given = take-append-le is.count given (line ∷ []) (omega arith) in
    let more : take (is.count + 1) (given ++ line ∷ []) ≡ take (is.count + 1) given = take-append-le (is.count + 1) given (line ∷ []) (omega arith) in
    record {
      count = is.count;
      room = rw same is.room;
      all = λ e. absurd (cc);
      cut = λ _. (rw (length-append given (line ∷ [])) (omega arith), rw more was.1, rw same was.2);
    }

goes_in : (given : List (List ℕ)) (log : Log) (line : List ℕ) → log.truncated ≡ false → sum_by length log.lines + length line ≤ max_log_bytes → IsLogOf given log
    → IsLogOf (given ++ line ∷ []) (record { lines = log.lines ++ line ∷ []; truncated = false })
goes_in given log line whole room is =
    let was = is.all whole in
    record {
      count = length given + 1;
      room = rw (whole_take given line, sum_by_push length given line, ← was.1) room;
      all = λ _. (sym (length-append given (line ∷ [])), ap (λ (lines : List (List ℕ)). lines ++ line ∷ []) was.1);
      cut = λ e. absurd (cc);
    }

becomes_cut : (given : List (List ℕ)) (log : Log) (line : List ℕ) → log.truncated ≡ false → max_log_bytes < sum_by length log.lines + length line → IsLogOf given log
    → IsLogOf (given ++ line ∷ []) (record { lines = log.lines ++ truncated_line ∷ []; truncated = true })
becomes_cut given log line whole full is =
    let was = is.all whole in
    let front : take (length given) (given ++ line ∷ []) ≡ given = take-append_seam given (line ∷ []) in
    let fits : sum_by length given ≤ max_log_bytes = subst (λ (lines : List (List ℕ)). sum_by length lines ≤ max_log_bytes) (ap (λ n. take n given) was.0 ∙ take-length given) is.room in
    let over : max_log_bytes < sum_by length given + length line = subst (λ (lines : List (List ℕ)). max_log_bytes < sum_by length lines + length line) was.1 full in
    record {
      count = length given;
      room = rw front fits;
      all = λ e. absurd (cc);
      cut = λ _. (rw (length-append given (line ∷ [])) (omega arith), rw (whole_take given line, sum_by_push length given line) over, rw (front, was.1) refl);
    }

-- one line more
pub IsLogOf-with_line : (given : List (List ℕ)) (log : Log) (line : List ℕ) → IsLogOf given log → IsLogOf (given ++ line ∷ []) (with_line log line)
IsLogOf-with_line given log line is = elim (cases_Bool log.truncated) [
  | inl cut ↦ subst (IsLogOf (given ++ line ∷ [])) (sym (with_line-truncated log line cut)) (still_cut given log line cut is)
  | inr whole ↦ elim (leb_tells (sum_by length log.lines + length line) max_log_bytes) [
    | inl p ↦ let room = p.1 in subst (IsLogOf (given ++ line ∷ [])) (sym (with_line-room log line whole room)) (goes_in given log line whole room is)
    | inr p ↦ let full = p.1 in subst (IsLogOf (given ++ line ∷ [])) (sym (with_line-full log line whole full)) (becomes_cut given log line whole full is)
  ]
]

pub IsSmall-no_lines : IsSmall no_lines
IsSmall-no_lines = record { whole = lit≤ tt; room = λ _. lit≤ tt; filled = tt }

filled_push : (lines : List (List ℕ)) (line : List ℕ) → AllByRecursion (λ (l : List ℕ). 1 ≤ length l) lines → 1 ≤ length line → AllByRecursion (λ (l : List ℕ). 1 ≤ length l) (lines ++ line ∷ [])
filled_push [] line all one = (one, tt)
filled_push (l ∷ lines) line all one = (all.0, filled_push lines line all.1 one)

pub IsSmall-with_line : (log : Log) (line : List ℕ) → 1 ≤ length line → IsSmall log → IsSmall (with_line log line)
IsSmall-with_line log line one is = elim (cases_Bool log.truncated) [
  | inl cut ↦ subst IsSmall (sym (with_line-truncated log line cut)) is
  | inr whole ↦ elim (leb_tells (sum_by length log.lines + length line) max_log_bytes) [
    | inl p ↦ let room = p.1 in subst IsSmall (sym (with_line-room log line whole room)) (record {
      whole = rw (sum_by_push length log.lines line) (omega arith);
      room = λ _. rw (sum_by_push length log.lines line) room;
      filled = filled_push log.lines line is.filled one;
    })
    | inr p ↦ let full = p.1 in subst IsSmall (sym (with_line-full log line whole full)) (record {
      whole = let fits : sum_by length log.lines ≤ max_log_bytes = is.room whole in rw (sum_by_push length log.lines truncated_line) (omega arith);
      room = λ e. absurd (cc);
      filled = filled_push log.lines truncated_line is.filled (lit≤ tt);
    })
  ]
]
