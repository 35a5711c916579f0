-- Fees and priorities (Solana; the cut of the priority fee, the priority and its rounding are the
-- project's own).
use Rattle.std.specs.Prelude.{ℕ, ◌+◌, ◌-◌, ◌*◌, ◌/◌, ◌^◌, min}
use Rattle.message_codec.specs.declared.message.Message.{Message}
use Rattle.fee_rules.specs.declared.budget.Budget.{Budget}
use Rattle.fee_rules.specs.declared.pricing.TheConstants.{LAMPORTS_PER_SIGNATURE, MICRO_LAMPORTS_PER_LAMPORT}
use Rattle.fee_rules.specs.declared.split.FeeSplit.{FeeSplit}
use Rattle.fee_rules.specs.Charge.{Charge}

-- the least number of which d times is at least n
abbrev pub ceil_div : ℕ → ℕ → ℕ
ceil_div n d = (n + (d - 1)) / d

-- for each required signature
abbrev pub base_fee : Message → ℕ
base_fee message = LAMPORTS_PER_SIGNATURE * message.header.required

-- for the compute units, and no more than fits with the base fee in 64 bits
abbrev pub priority_fee : ℕ → Budget → ℕ
priority_fee base budget =
    min (ceil_div (budget.price * budget.limit) MICRO_LAMPORTS_PER_LAMPORT) (2 ^ 64 - 1 - base)

unfoldable pub fee_of : Message → Budget → Charge
fee_of message budget = record {
  base = base_fee message;
  priority = priority_fee (base_fee message) budget;
}

-- what is not burned of a fee, in micro-lamports, for each unit and one more
unfoldable pub priority_of : Charge → Budget → ℕ
priority_of fee budget =
    (fee.priority + fee.base - fee.base / 2) * MICRO_LAMPORTS_PER_LAMPORT / (budget.limit + 1)

-- half of the base fees is burned, and the rest is left
abbrev pub split_of : ℕ → ℕ → FeeSplit
split_of base priority = record { burned = base / 2; rest = base - base / 2 + priority }
