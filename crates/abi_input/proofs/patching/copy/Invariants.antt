use Rattle.std.proofs.Common.{◌≡◌, ◌-◌, ◌≤◌, ◌++◌, take, drop}
use Rattle.abi_input.proofs.patching.copy.Given as goal

-- so many bytes of the range are copied
abbrev pub invariant-loop-done : goal.invariant-loop-done
invariant-loop-done l = record {
  within : l.done ≤ l.len;
  bytes : l.draft.bytes ≡ l.fn.draft.bytes ++ take l.done (drop l.at l.region.bytes);
  lent : l.draft.lent ≡ l.fn.draft.lent;
}

abbrev pub decreases-loop-done : goal.decreases-loop-done
decreases-loop-done l = l.len - l.done
