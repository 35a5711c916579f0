-- The log lines of one transaction (Solana's rule; that nothing is kept after the first line that
-- does not fit is the project's own).
use Rattle.std.specs.Prelude.{◌≡◌, ℕ, ◌+◌, ◌<◌, ◌≤◌, List, [], ◌∷◌, ◌++◌, length, take, sum_by, fold, codes, IsUtf8, Bool, true, false, nat_le, if◌then◌else◌}
use Rattle.std.specs.List.{AllByRecursion}
use Rattle.tx_report.specs.declared.logs.TheConstants.{MAX_LOG_BYTES}

-- the lines kept, and whether one was replaced
pub record Log : Type 0 where
  pub lines : List (List ℕ)
  pub truncated : Bool

abbrev pub no_lines : Log
no_lines = record { lines = []; truncated = false }

-- the most bytes of the lines kept, all together (Solana)
abbrev pub max_log_bytes : ℕ
max_log_bytes = MAX_LOG_BYTES

-- what stands in place of the first line that is not kept
abbrev pub truncated_line : List ℕ
truncated_line = codes "Log truncated"

-- A line is kept where the lengths of the kept lines and its own sum to no more. The first
-- one for which this does not hold is replaced, and nothing is kept after it.
abbrev pub with_line : Log → List ℕ → Log
with_line log line =
    if log.truncated then log else
    if nat_le (sum_by length log.lines + length line) max_log_bytes
    then record { lines = log.lines ++ line ∷ []; truncated = false } else
    record { lines = log.lines ++ truncated_line ∷ []; truncated = true }

-- The log of all lines that were given: the longest run of them, from the first on, that has at
-- most so many bytes, and then, where a line is left, the text that says so.
pub record IsLogOf (given : List (List ℕ)) (log : Log) : Type 0 where
  pub count : ℕ
  pub room : sum_by length (take count given) ≤ max_log_bytes
  pub all : log.truncated ≡ false → (count ≡ length given) × (log.lines ≡ given)
  pub cut : log.truncated ≡ true → (count < length given)
      × (max_log_bytes < sum_by length (take (count + 1) given))
      × (log.lines ≡ take count given ++ truncated_line ∷ [])

-- the most bytes of all lines of a log: of those kept, and of the text in place of one
abbrev pub max_lines_bytes : ℕ
max_lines_bytes = max_log_bytes + length truncated_line

-- what holds of every log whose lines have at least one byte each: they are few, and short
pub record IsSmall (log : Log) : Type 0 where
  pub whole : sum_by length log.lines ≤ max_lines_bytes
  pub room : log.truncated ≡ false → sum_by length log.lines ≤ max_log_bytes
  pub filled : AllByRecursion (λ line. 1 ≤ length line) log.lines

-- a line as programs and their frames write it: a text that is not empty
pub record IsLine (line : List ℕ) : Type 0 where
  pub filled : 1 ≤ length line
  pub text : IsUtf8 line

-- the log after more lines, one by one
abbrev pub with_lines : Log → List (List ℕ) → Log
with_lines log given = fold with_line log given

-- a log that has come from another by such lines, and by nothing else
pub record HasGrown (before after : Log) : Type 0 where
  pub given : List (List ℕ)
  pub lines : AllByRecursion IsLine given
  pub is : after ≡ with_lines before given

-- these lines are the log of such lines, and are texts
pub record AreLogged (kept : List (List ℕ)) : Type 0 where
  pub given : List (List ℕ)
  pub lines : AllByRecursion IsLine given
  pub log : Log
  pub is : IsLogOf given log
  pub same : kept ≡ log.lines
  pub texts : AllByRecursion IsUtf8 kept
