use Rattle.std.proofs.Common.{◌≡◌, map, take, drop}
use Rattle.std.specs.List.{position_from}
use Rattle.cpi_calls.specs.Rights.{is_missing, meta_of}
use Rattle.cpi_calls.proofs.grant.find_accounts.Given as goal

-- no account so far is missing, and their metas are there
abbrev pub invariant-loop-i : goal.invariant-loop-i
invariant-loop-i l = record {
  same : position_from (is_missing l.keys l.caller) 0 l.asked ≡ position_from (is_missing l.keys l.caller) l.i (drop l.i l.asked);
  found : l.metas ≡ map (meta_of l.keys l.caller) (take l.i l.asked);
}
