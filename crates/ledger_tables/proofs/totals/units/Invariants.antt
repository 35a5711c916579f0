use Rattle.std.proofs.Common.{◌≡◌, ◌≤◌, ◌*◌, ◌-◌, ◌^◌, take, sum_by}
use Rattle.ledger_tables.proofs.totals.units.Given as goal

-- the sum so far, which each entry raises by a u64
abbrev pub invariant-loop-entry : goal.invariant-loop-entry
invariant-loop-entry l =
    (l.sum ≡ sum_by (λ entry. entry.units) (take l.entry-index l.entries))
    × (l.sum ≤ l.entry-index * (2 ^ 64 - 1))
