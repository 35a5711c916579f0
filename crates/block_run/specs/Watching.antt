-- What is seen of the transactions of a block.
use Rattle.std.specs.Prelude.{◌≡◌, ℕ, Bool, true, false, List, [], ◌∷◌, ◌++◌, ◌==◌}
use Rattle.sol_base.specs.declared.key.Key.{Key}
use Rattle.sol_base.specs.declared.account.Account.{Account}
use Rattle.tx_report.specs.declared.outcome.Outcome.{Outcome}
use Rattle.bank_law.specs.Job.{Job}
use Rattle.bank_law.specs.Serial.{result}
use Rattle.block_run.specs.declared.watching.Seen.{Seen}
use Rattle.block_run.specs.declared.watching.Wanted.{Wanted}
use Rattle.block_run.specs.declared.watching.Wanted.TheVariants.{All as each, One}

-- whether a position is seen
abbrev pub wants : Wanted → ℕ → Bool
wants each position = true
wants (One one) position = one == position

-- the transactions seen, with one more if it is seen
abbrev pub seen_after : Bool → ℕ → Outcome → List Seen → List Seen
seen_after false position outcome seen = seen
seen_after true position outcome seen =
    seen ++ (record { position = position; outcome = outcome }) ∷ []

-- a transaction that was seen came to what it comes to in the serial run
abbrev pub IsSerial : Job → (Key → Account) → Seen → Type 0
IsSerial job start seen = seen.outcome ≡ result job start seen.position
