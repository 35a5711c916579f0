-- The rent of accounts, and the changes that it allows (Solana).
use Rattle.std.specs.Prelude.{◌≡◌, ℕ, Bool, true, false, ◌+◌, ◌*◌, ◌<◌, ◌≤◌, ◌&&◌, length, ◌==◌, nat_le, if◌then◌else◌}
use Rattle.sol_base.specs.declared.account.Account.{Account}
use Rattle.rent_rules.specs.declared.rent.TheConstants.{ACCOUNT_OVERHEAD, EXEMPTION_YEARS, LAMPORTS_PER_BYTE_YEAR}
use Rattle.rent_rules.specs.declared.rent.RentState.{RentState}
use Rattle.rent_rules.specs.declared.rent.RentState.TheVariants.{Empty, Exempt, Paying}

-- the least balance that exempts an account with that many data bytes
abbrev pub minimum_of : ℕ → ℕ
minimum_of len = (ACCOUNT_OVERHEAD + len) * LAMPORTS_PER_BYTE_YEAR * EXEMPTION_YEARS

-- it has lamports, but not so many as exempt it
abbrev pub IsPaying : Account → Type 0
IsPaying a = (0 < a.lamports) × (a.lamports < minimum_of (length a.bytes))

-- an account becomes or stays a paying one only from a paying one with as many data bytes and at
-- least its lamports
abbrev pub MayMove : Account → Account → Type 0
MayMove before after =
    IsPaying after
    → (IsPaying before × (length before.bytes ≡ length after.bytes)
    × (after.lamports ≤ before.lamports))

-- the rent state of a balance and a number of data bytes
abbrev pub rent_state_of : ℕ → ℕ → RentState
rent_state_of lamports len =
    if lamports == 0 then Empty else
    if nat_le (minimum_of len) lamports then Exempt else
    Paying lamports len

-- the rent state of an account
abbrev pub rent_of : Account → RentState
rent_of a = rent_state_of a.lamports (length a.bytes)

-- `MayMove` by rent states alone
abbrev pub moves : RentState → RentState → Bool
moves _ Empty = true
moves _ Exempt = true
moves Empty (Paying _ _) = false
moves Exempt (Paying _ _) = false
moves (Paying before len) (Paying after len_after) = (len == len_after) && nat_le after before
