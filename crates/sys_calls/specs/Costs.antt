-- The numbers, the costs and the limits of the calls (Solana; the numbers, and the costs of slot,
-- rent and reading what was returned, are the project's own).
use Rattle.std.specs.Prelude.{ℕ, ◌+◌, ◌/◌, ◌==◌, max, min, List, slice_index, if◌then◌else◌}
use Rattle.compute_meter.specs.declared.units.TheConstants.{BYTES_OF_UNIT}
use Rattle.sys_calls.specs.declared.table.SystemCall.{SystemCall}
use Rattle.sys_calls.specs.declared.table.SystemCall.TheVariants.{Abort, Log, Log64, LogKey, LogUnits, Sha256, Memcpy, Memmove, Memcmp, Memset, ProgramKey, GetSlot, GetRent, SetReturn, GetReturn, GetHeight}
use Rattle.sys_calls.specs.declared.table.TheConstants.{BASE_COST, HASH_COST, KEY_COST, MIN_BYTES_COST, RENT_COST, SLOT_COST}
use Rattle.sys_calls.specs.declared.sha256.TheConstants.{MAX_SLICES}
use Rattle.sys_calls.specs.declared.returned.TheConstants.{MAX_RETURNED}

-- the call of a number that is served
abbrev pub call_numbered : ℕ → SystemCall
call_numbered number =
    if number == 1 then Abort else
    if number == 2 then Log else
    if number == 3 then Log64 else
    if number == 4 then LogKey else
    if number == 5 then LogUnits else
    if number == 6 then Sha256 else
    if number == 7 then Memcpy else
    if number == 8 then Memmove else
    if number == 9 then Memcmp else
    if number == 10 then Memset else
    if number == 11 then ProgramKey else
    if number == 12 then GetSlot else
    if number == 13 then GetRent else
    if number == 14 then SetReturn else
    if number == 15 then GetReturn else
    GetHeight

-- the arguments, by the registers that hold them
abbrev pub r1 : List ℕ → ℕ
r1 arguments = slice_index arguments 0

abbrev pub r2 : List ℕ → ℕ
r2 arguments = slice_index arguments 1

abbrev pub r3 : List ℕ → ℕ
r3 arguments = slice_index arguments 2

abbrev pub r4 : List ℕ → ℕ
r4 arguments = slice_index arguments 3

abbrev pub r5 : List ℕ → ℕ
r5 arguments = slice_index arguments 4

-- what a call on many bytes costs
abbrev pub bytes_cost : ℕ → ℕ
bytes_cost count = max MIN_BYTES_COST (count / BYTES_OF_UNIT)

-- what a call costs before it does anything, by its arguments and how many returned bytes are kept
abbrev pub cost_of : SystemCall → List ℕ → ℕ → ℕ
cost_of Abort r kept = BASE_COST
cost_of Log r kept = max BASE_COST (r2 r)
cost_of Log64 r kept = BASE_COST
cost_of LogKey r kept = BASE_COST
cost_of LogUnits r kept = BASE_COST
cost_of Sha256 r kept = HASH_COST
cost_of Memcpy r kept = bytes_cost (r3 r)
cost_of Memmove r kept = bytes_cost (r3 r)
cost_of Memcmp r kept = bytes_cost (r3 r)
cost_of Memset r kept = bytes_cost (r3 r)
cost_of ProgramKey r kept = KEY_COST
cost_of GetSlot r kept = SLOT_COST
cost_of GetRent r kept = RENT_COST
cost_of SetReturn r kept = BASE_COST + r2 r / BYTES_OF_UNIT
cost_of GetReturn r kept = BASE_COST + min (r2 r) kept / BYTES_OF_UNIT
cost_of GetHeight r kept = BASE_COST

-- the most slices that are hashed, and the most bytes that are returned
abbrev pub max_slices : ℕ
max_slices = MAX_SLICES

abbrev pub max_returned : ℕ
max_returned = MAX_RETURNED
