-- The end of a block: the fees are burned and paid, and final programs become executable (Solana
-- for the fees; the rounding, and programs that transactions write, are the project's own).
use Rattle.std.specs.Prelude.{ℕ, ◌+◌, ◌==◌, ◌&&◌, not, nat_le, Bool, List, length, map, sum_by, if◌then◌else◌}
use Rattle.std.specs.FinMap.{from_entries}
use Rattle.sol_base.specs.declared.key.Key.{Key}
use Rattle.sol_base.specs.declared.account.Account.{Account}
use Rattle.message_codec.specs.Roles.{is_reserved}
use Rattle.fee_rules.specs.declared.split.FeeSplit.{FeeSplit}
use Rattle.fee_rules.specs.Fees.{split_of}
use Rattle.rent_rules.specs.Rent.{minimum_of}
use Rattle.tx_report.specs.declared.outcome.Outcome.{Outcome}
use Rattle.account_store.specs.State.{State, at, entries, put}
use Rattle.loader_prog.specs.Loader.{active}
use Rattle.account_rules.specs.Wallets.{is_wallet}

-- the fees that were paid
abbrev pub base_fees : List Outcome → ℕ
base_fees outcomes = sum_by (λ outcome. outcome.base_paid) outcomes

abbrev pub priority_fees : List Outcome → ℕ
priority_fees outcomes = sum_by (λ outcome. outcome.priority_paid) outcomes

-- an account with so many lamports more
abbrev pub more : Account → ℕ → Account
more account lamports = record account { lamports = account.lamports + lamports }

-- the collector may have that account: its key is not reserved, and it is a wallet that rent
-- exempts
abbrev pub may_collect : Key → Account → Bool
may_collect collector account =
    not (is_reserved collector) && is_wallet account
    && nat_le (minimum_of (length account.bytes)) account.lamports

-- how fees were shared: the accounts then, and the lamports that were burned and paid
pub record Shares : Type 0 where
  pub accounts : State
  pub burned : ℕ
  pub collected : ℕ

-- what is left of the fees is paid to the collector, where there is any and it may have it; else it
-- is burned too
abbrev pub share : State → Key → FeeSplit → Shares
share state collector split =
    let paid = more (at state collector) split.rest in
    if not (split.rest == 0) && may_collect collector paid
    then record {
      accounts = put state collector paid;
      burned = split.burned;
      collected = split.rest;
    }
    else record { accounts = state; burned = split.burned + split.rest; collected = 0 }

-- half of the base fees is burned, and the rest of all fees is left
unfoldable pub share_fees : State → Key → List Outcome → Shares
share_fees state collector outcomes =
    share state collector (split_of (base_fees outcomes) (priority_fees outcomes))

-- every account as the loader leaves it at the end of a block
unfoldable pub activate_all : State → State
activate_all state = from_entries (map (λ e. (e.0, active e.1)) (entries state))

-- the accounts at the end of a block, which has so many fees to share, and the lamports burned and
-- paid
abbrev pub shares_at_end : State → Key → FeeSplit → Shares
shares_at_end state collector split =
    let shares = share state collector split in
    record shares { accounts = activate_all shares.accounts }
