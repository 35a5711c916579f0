use Rattle.std.proofs.Common.{◌≡◌, length, map, take}
use Rattle.std.specs.List.{enumerate_from}
use Rattle.sol_base.specs.Accounts.{accounts_of, SameUnlessTouched}
use Rattle.abi_input.specs.Answers.{DifferWhereTouched}
use Rattle.abi_input.specs.Region.{account_back}
use Rattle.abi_input.proofs.taking.taken_by.Given as goal

-- the accounts so far, as they stand in their entries
abbrev pub invariant-loop-index : goal.invariant-loop-index
invariant-loop-index l = record {
  accounts : accounts_of l.back.accounts ≡ map (account_back l.laid.region.now.bytes (accounts_of l.laid.start.now) l.laid.listings.metas.now) (take l.index (enumerate_from 0 (accounts_of l.now)));
  count : length l.back.accounts ≡ l.index;
  flags : length l.back.touched ≡ l.index;
  untouched : SameUnlessTouched l.back.touched (accounts_of l.now) (accounts_of l.back.accounts);
  touched : DifferWhereTouched l.back.touched (accounts_of l.now) (accounts_of l.back.accounts);
}
