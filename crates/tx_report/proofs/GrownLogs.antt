-- Logs that have grown by lines: what holds of a log with one line more holds of them.
use Rattle.std.proofs.Common.{◌≡◌, ◌+◌, ℕ, List, [], ◌∷◌, ◌++◌, length, sum_by, Bool, true, false, nat_le, refl, sym, ap, subst, ◌∙◌, IsUtf8, append-nil, append_assoc, if◌then◌else◌}
use Rattle.std.specs.List.{AllByRecursion}
use Rattle.spec_base.proofs.PlainTexts.{words_text}
use Rattle.tx_report.specs.LogLines.{AreLogged, HasGrown, IsLine, IsLogOf, IsSmall, Log, max_log_bytes, no_lines, truncated_line, with_line, with_lines}
use Rattle.tx_report.proofs.LogLaws.{IsLogOf-no_lines, IsLogOf-with_line, IsSmall-with_line}

pub HasGrown-none : (log : Log) → HasGrown log log
HasGrown-none log = record { given = []; lines = tt; is = refl }

with_more : (log : Log) (given : List (List ℕ)) (line : List ℕ) → with_lines log (given ++ line ∷ []) ≡ with_line (with_lines log given) line
with_more log [] line = refl
with_more log (first ∷ given) line = with_more (with_line log first) given line

pushed : {X : Type 0} (P : X → Type 0) (xs : List X) (x : X) → AllByRecursion P xs → P x → AllByRecursion P (xs ++ x ∷ [])
pushed P [] x all one = (one, tt)
pushed P (first ∷ xs) x all one = (all.0, pushed P xs x all.1 one)

-- one line more
pub HasGrown-with_line : (before log : Log) (line : List ℕ) → IsLine line → HasGrown before log → HasGrown before (with_line log line)
HasGrown-with_line before log line one grown = record {
  given = grown.given ++ line ∷ [];
  lines = pushed IsLine grown.given line grown.lines one;
  is = ap (λ (l : Log). with_line l line) grown.is ∙ sym (with_more before grown.given line);
}

-- what each line keeps
grown_keeps : (P : Log → Type 0) → ((log : Log) (line : List ℕ) → IsLine line → P log → P (with_line log line)) → (before after : Log) → HasGrown before after → P before → P after
grown_keeps P each before after grown h = subst P (sym grown.is) (through grown.given grown.lines before h)
  where
    through : (given : List (List ℕ)) → AllByRecursion IsLine given → (log : Log) → P log → P (with_lines log given)
    through [] all log k = k
    through (line ∷ given) all log k = through given all.1 (with_line log line) (each log line all.0 k)

pub HasGrown-small : (before after : Log) → HasGrown before after → IsSmall before → IsSmall after
HasGrown-small before after grown small = grown_keeps IsSmall (λ log line one h. IsSmall-with_line log line one.filled h) before after grown small

-- ---- texts
abbrev pub IsText : Log → Type 0
IsText log = AllByRecursion IsUtf8 log.lines

IsText-with_line : (log : Log) (line : List ℕ) → IsUtf8 line → IsText log → IsText (with_line log line)
IsText-with_line log line one all = by_test log.truncated (nat_le (sum_by length log.lines + length line) max_log_bytes)
  where
    by_test : (t f : Bool) → IsText
        (if t then log else if f then record { lines = log.lines ++ line ∷ []; truncated = false } else
        record { lines = log.lines ++ truncated_line ∷ []; truncated = true })
    by_test true f = all
    by_test false true = pushed IsUtf8 log.lines line all one
    by_test false false = pushed IsUtf8 log.lines truncated_line all (words_text truncated_line refl)

pub HasGrown-text : (before after : Log) → HasGrown before after → IsText before → IsText after
HasGrown-text before after grown text = grown_keeps IsText (λ log line one h. IsText-with_line log line one.text h) before after grown text

-- ---- the log of all lines
all_given : (given more : List (List ℕ)) (log : Log) → IsLogOf given log → IsLogOf (given ++ more) (with_lines log more)
all_given given [] log is = subst (λ (lines : List (List ℕ)). IsLogOf lines log) (sym (append-nil given)) is
all_given given (line ∷ more) log is =
    subst (λ (lines : List (List ℕ)). IsLogOf lines (with_lines (with_line log line) more)) (append_assoc given (line ∷ []) more)
    (all_given (given ++ line ∷ []) more (with_line log line) (IsLogOf-with_line given log line is))

pub HasGrown-log : (given : List (List ℕ)) (before after : Log) → IsLogOf given before → (grown : HasGrown before after) → IsLogOf (given ++ grown.given) after
HasGrown-log given before after is grown = subst (IsLogOf (given ++ grown.given)) (sym grown.is) (all_given given grown.given before is)

-- a log that has grown from none
pub AreLogged-grown : (log : Log) → HasGrown no_lines log → AreLogged log.lines
AreLogged-grown log grown = record {
  given = grown.given;
  lines = grown.lines;
  log = log;
  is = HasGrown-log [] no_lines log IsLogOf-no_lines grown;
  same = refl;
  texts = HasGrown-text no_lines log grown tt;
}

pub AreLogged-none : AreLogged []
AreLogged-none = AreLogged-grown no_lines (HasGrown-none no_lines)
