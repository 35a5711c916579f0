use Rattle.std.proofs.Common.{◌≡◌, None}
use Rattle.sol_base.specs.Accounts.{accounts_of}
use Rattle.abi_input.specs.Region.{is_outgrown}
use Rattle.abi_input.specs.Entries.{found_among}
use Rattle.abi_input.proofs.patching.check_rooms.Given as goal

-- none of the metas so far is one that must not be
abbrev pub invariant-loop-place : goal.invariant-loop-place
invariant-loop-place l = found_among (is_outgrown (accounts_of l.laid.start.now) (accounts_of l.now)) l.laid.listings.metas.now l.place ≡ None
