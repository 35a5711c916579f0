-- The limits and the costs of a cross-program call (Solana; that account data cost nothing is the
-- project's own).
use Rattle.std.specs.Prelude.{ℕ}
use Rattle.compute_meter.specs.declared.units.TheConstants.{BYTES_OF_UNIT}
use Rattle.cpi_calls.specs.declared.request.TheConstants.{CALL_COST, MAX_CALL_DATA}
use Rattle.cpi_calls.specs.declared.signers.TheConstants.{MAX_SIGNERS}
pub use Rattle.sol_base.specs.Metas.{max_metas}

-- the most keys of a transaction: an index of one byte names each
abbrev pub max_keys : ℕ
max_keys = 255

-- the most bytes of data and the most signers of a call
abbrev pub max_call_data : ℕ
max_call_data = MAX_CALL_DATA

abbrev pub max_signers : ℕ
max_signers = MAX_SIGNERS

-- what a call costs before anything of it is read
abbrev pub call_cost : ℕ
call_cost = CALL_COST

-- the bytes of data that cost one unit
abbrev pub bytes_of_unit : ℕ
bytes_of_unit = BYTES_OF_UNIT
