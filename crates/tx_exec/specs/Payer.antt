-- The fee payer, which is the first of a transaction's accounts (Solana; that a transaction whose
-- payer cannot pay stands in its block as dropped is the project's own): why a transaction is
-- dropped, and what its fee leaves.
use Rattle.std.specs.Prelude.{ℕ, ◌+◌, ◌-◌, ◌==◌, not, Bool, nat_lt, List, [], ◌∷◌, Option, Some, None, if◌then◌else◌}
use Rattle.sol_base.specs.declared.account.Account.{Account}
use Rattle.rent_rules.specs.Rent.{rent_of, moves}
use Rattle.account_rules.specs.Wallets.{is_wallet}
use Rattle.tx_report.specs.declared.cause.DropCause.{DropCause}
use Rattle.tx_report.specs.declared.cause.DropCause.TheVariants.{PayerAbsent, PayerNotSystem, CannotPayFee, PayerRent}
use Rattle.admission.specs.declared.chosen.Chosen.{Chosen}

abbrev pub total_fee : Chosen → ℕ
total_fee t = t.fee.base + t.fee.priority

-- an account with so many lamports less
abbrev pub less : Account → ℕ → Account
less account lamports = record account { lamports = account.lamports - lamports }

-- the rent does not allow what the fee leaves
abbrev pub breaks_rent : Account → Account → Bool
breaks_rent before after = not (moves (rent_of before) (rent_of after))

-- why a payer cannot pay, by the first reason
abbrev pub drop_cause : Account → ℕ → Option DropCause
drop_cause payer fee =
    if payer.lamports == 0 then Some PayerAbsent else
    if not (is_wallet payer) then Some PayerNotSystem else
    if nat_lt payer.lamports fee then Some CannotPayFee else
    if breaks_rent payer (less payer fee) then Some PayerRent else
    None

abbrev pub dropped : List Account → ℕ → Option DropCause
dropped [] fee = Some PayerAbsent
dropped (payer ∷ others) fee = drop_cause payer fee

-- the values once the fee is taken
abbrev pub charged : List Account → ℕ → List Account
charged [] fee = []
charged (payer ∷ others) fee = less payer fee ∷ others
