-- What a chain allows.
use Rattle.std.specs.Prelude.{ℕ}
use Rattle.sol_base.specs.declared.limits.Limits.{Limits}
use Rattle.sol_base.specs.declared.limits.TheConstants.{MAX_BLOCK_UNITS, MAX_LANES, MAX_SENDERS, MAX_STACK_HEIGHT, MAX_TRANSACTION_KEYS, MAX_TRANSACTIONS}

-- the limits that a snapshot of version 1 stands for (the project's own)
abbrev pub first_limits : Limits
first_limits = record { keys = 64; height = 5; key_units = 12000000; block_units = 48000000 }

-- the most transactions of a block (the project's own)
abbrev pub max_transactions : ℕ
max_transactions = MAX_TRANSACTIONS

-- the most lanes that execute a block (the project's own)
abbrev pub max_lanes : ℕ
max_lanes = MAX_LANES

-- the most senders that a batch is gathered from (the project's own)
abbrev pub max_senders : ℕ
max_senders = MAX_SENDERS

-- the most that a chain may allow: keys of a transaction, stack height (both Solana), and compute
-- units of a block, for one key or in all (the project's own)
abbrev pub max_transaction_keys : ℕ
max_transaction_keys = MAX_TRANSACTION_KEYS

abbrev pub max_stack_height : ℕ
max_stack_height = MAX_STACK_HEIGHT

abbrev pub max_block_units : ℕ
max_block_units = MAX_BLOCK_UNITS
