use Rattle.std.proofs.Common.{◌≡◌, drop}
use Rattle.std.specs.List.{position_from, zip}
use Rattle.cpi_calls.specs.Rights.{exceeds_with}
use Rattle.cpi_calls.proofs.grant.check_rights.Given as goal

-- no meta so far exceeds what the caller may give
abbrev pub invariant-loop-i : goal.invariant-loop-i
invariant-loop-i l = position_from (exceeds_with l.signers l.caller) 0 (zip l.asked l.metas) ≡ position_from (exceeds_with l.signers l.caller) l.i (zip (drop l.i l.asked) (drop l.i l.metas))
