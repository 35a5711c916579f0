use Rattle.std.proofs.Common.{◌≡◌, map, take}
use Rattle.sol_base.specs.Accounts.{accounts_of}
use Rattle.bank_law.specs.Lawful.{lent_for_writing}
use Rattle.lane_trials.specs.Trial.{spent}
use Rattle.lane_trials.proofs.tests.trial.write_locks.Given as goal

abbrev pub invariant-loop-i : goal.invariant-loop-i
invariant-loop-i l = accounts_of l.written ≡ map spent (lent_for_writing (take l.i l.locks) (take l.i (accounts_of l.values)))
