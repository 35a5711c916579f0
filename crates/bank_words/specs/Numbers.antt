-- The numbers of options as texts, and their ranges (the project's own).
use Rattle.std.specs.Prelude.{ℕ, ◌^◌, ◌-◌, Option, Some, None}
use Rattle.sol_base.specs.Limits.{max_lanes, max_senders, max_transactions}
use Rattle.command_parts.specs.Numbers.{number_in}
use Rattle.bank_words.specs.Options.{Text}

-- what stands for an option that is not used, or the number of its text
abbrev pub or_default : Option ℕ → (Text → Option ℕ) → Option Text → Option ℕ
or_default default read None = default
or_default default read (Some text) = read text

abbrev pub lanes_in : Option Text → Option ℕ
lanes_in = or_default (Some 1) (number_in 1 max_lanes)

abbrev pub senders_in : Option Text → Option ℕ
senders_in = or_default (Some 1) (number_in 1 max_senders)

-- the number that `make` starts from, and how many transactions it makes: both required
abbrev pub seed_in : Option Text → Option ℕ
seed_in = or_default None (number_in 0 (2 ^ 64 - 1))

abbrev pub count_in : Option Text → Option ℕ
count_in = or_default None (number_in 1 max_transactions)
