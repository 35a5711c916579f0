-- What a transaction came to: that it fits the fields of a record.
use Rattle.std.specs.Prelude.{ℕ, ◌+◌, ◌^◌, ◌<◌, ◌≤◌, All, length, sum_by}
use Rattle.tx_report.specs.declared.outcome.Outcome.{Outcome}
use Rattle.tx_report.specs.LogLines.{max_lines_bytes}

-- an outcome has a fee of 64 bits, and lines that are few and short
pub record IsSmallOutcome (outcome : Outcome) : Type 0 where
  pub fee : outcome.base_paid + outcome.priority_paid < 2 ^ 64
  pub bytes : sum_by length outcome.lines ≤ max_lines_bytes
  pub filled : All (λ line. 1 ≤ length line) outcome.lines
