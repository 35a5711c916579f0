use Rattle.std.proofs.Common.{◌≡◌}
use Rattle.std.specs.Prelude.{map}
use Rattle.std.specs.List.{range_with_len}
use Rattle.batch_gen.specs.Generator.{user_account}
use Rattle.batch_gen.proofs.start.list_accounts.Given as goal

-- the users so far
abbrev pub invariant-loop-i : goal.invariant-loop-i
invariant-loop-i l = l.accounts ≡ map user_account (range_with_len 0 l.i)
