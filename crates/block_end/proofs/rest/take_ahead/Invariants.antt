use Rattle.std.proofs.Common.{◌-◌, length}
use Rattle.block_end.specs.RecordPrefix.{IsAhead}
use Rattle.block_end.proofs.rest.take_ahead.Given as goal

-- the entries so far are written, and hashed but for the last
abbrev pub invariant-loop-ahead : goal.invariant-loop-ahead
invariant-loop-ahead g l = IsAhead l.parts l.outcomes l.ahead.count l.ahead.hasher l.ahead.bytes l.ahead.last

abbrev pub decreases-loop-ahead : goal.decreases-loop-ahead
decreases-loop-ahead g l = length l.outcomes - l.ahead.count
