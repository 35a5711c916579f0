-- The system calls other than the cross-program call (Solana; their numbers, the bytes and the
-- costs of slot and rent, the cost of reading what was returned, and the answer 1 to a seed that is
-- too long are the project's own).
use Rattle.std.specs.Prelude.{◌≡◌, ℕ, ◌+◌, ◌-◌, ◌%◌, ◌^◌, ◌≤◌, ◌==◌, nat_lt, true, false, List, [], ◌∷◌, ◌++◌, length, take, replicate, min, Option, Some, None, unwrap_or, Result, Ok, Err, OnErr, if◌then◌else◌}
use Rattle.std.specs.Option.{option_map}
use Rattle.std.specs.Int.{w32, w64, to_le_bytes}
use Rattle.spec_base.specs.Reading.{◌>>=◌, Gives}
use Rattle.sol_base.specs.declared.key.Key.{Key}
use Rattle.sol_base.specs.DerivedKeys.{max_seeds, program_key_of}
use Rattle.sol_base.specs.declared.derived.SeedsFault.{SeedsFault}
use Rattle.sbpf_memory.specs.Memory.{Ranges, IsMemory}
use Rattle.sbpf_memory.specs.Plain.{plain_memory}
use Rattle.tx_report.specs.LogLines.{Log as Lines, with_line}
use Rattle.rent_rules.specs.declared.rent.TheConstants.{EXEMPTION_YEARS, LAMPORTS_PER_BYTE_YEAR}
use Rattle.sys_calls.specs.declared.env.Env.{Env}
use Rattle.sys_calls.specs.declared.slices.Slice.{Slice}
use Rattle.sys_calls.specs.declared.table.SystemCall.{SystemCall}
use Rattle.sys_calls.specs.declared.table.SystemCall.TheVariants as Call
use Rattle.sys_calls.specs.declared.fault.SysFault.{SysFault}
use Rattle.sys_calls.specs.declared.fault.SysFault.TheVariants.{Abort, UnitsSpent, TooManySeeds, ReturnTooLong, TooManySlices, OutOfMemory as no_memory}
use Rattle.sys_calls.specs.Access.{is_sys_memory, bytes_read, bytes_written, bytes_copied}
use Rattle.sys_calls.specs.Slices.{Gathered, slices_read, has_long_slice, all_read, gathered, hash_of}
use Rattle.sys_calls.specs.Lines.{log_line, log_64_line, log_key_line, log_units_line}
use Rattle.sys_calls.specs.Costs.{call_numbered, cost_of, max_returned, max_slices, r1, r2, r3, r4, r5}

-- what a served call gives: r0, the new memory, the log, and the returned bytes with their keeper
pub record Service : Type 0 where
  pub r0 : ℕ
  pub memory : Ranges
  pub log : Lines
  pub returned : List ℕ
  pub keeper : Key

-- the units then left, and what the call gives or the first refusal
pub record SysAnswer : Type 0 where
  pub units : ℕ
  pub answer : Result Service SysFault

-- a memory and surroundings as a call leaves them
abbrev pub service : ℕ → Ranges → Env → Service
service r0 m env =
    record {
      r0 = r0;
      memory = m;
      log = env.logs;
      returned = env.returned;
      keeper = env.returned_by;
    }

abbrev pub logged : Ranges → Env → Result (List ℕ) SysFault → Result Service SysFault
logged m env line = do
  text ← line
  Ok (service 0 m (record env { logs = with_line env.logs text }))

-- r0 and a memory, where nothing else changes
abbrev pub answered : Env → Result (ℕ × Ranges) SysFault → Result Service SysFault
answered env answer = do
  r ← answer
  Ok (service r.0 r.1 env)

abbrev pub wrote : Env → Result Ranges SysFault → Result Service SysFault
wrote env memory = do
  after ← memory
  Ok (service 0 after env)

-- the first two bytes at one place that differ
abbrev pub differing : List ℕ → List ℕ → Option (ℕ × ℕ)
differing (x ∷ xs) (y ∷ ys) = if x == y then differing xs ys else Some (x, y)
differing _ _ = None

-- their difference, as a number of 32 bits with a sign
abbrev pub difference : ℕ × ℕ → ℕ
difference pair = (pair.0 + (2 ^ 32 - pair.1)) % 2 ^ 32

-- or 0, where none differ
abbrev pub first_difference : List ℕ → List ℕ → ℕ
first_difference one other = unwrap_or (option_map difference (differing one other)) 0

unfoldable pub compared : Ranges → ℕ → ℕ → ℕ → ℕ → Result Ranges SysFault
compared m a b count result = do
  one ← bytes_read m a count
  other ← bytes_read m b count
  bytes_written m result (to_le_bytes w32 (first_difference one other))

abbrev pub filled : Ranges → ℕ → ℕ → ℕ → Result Ranges SysFault
filled m to byte count = bytes_written m to (replicate count (byte % 256))

abbrev pub key_or_one : Ranges → ℕ → Result Key SeedsFault → Result (ℕ × Ranges) SysFault
key_or_one m result (Err fault) = Ok (1, m)
key_or_one m result (Ok key) = do
  after ← bytes_written m result key.0
  Ok (0, after)

unfoldable pub key_written : Ranges → ℕ → ℕ → List Slice → Result (ℕ × Ranges) SysFault
key_written m program result slices =
    if has_long_slice slices then Ok (1, m) else
    do
      seeds ← all_read m slices
      bytes ← bytes_read m program 32
      key_or_one m result (program_key_of seeds (record { 0 = bytes }))

-- The key of the seeds and the program is written. Where a seed is too long, r0 is 1, and nothing
-- more is read or written.
unfoldable pub key_derived : Ranges → ℕ → ℕ → ℕ → ℕ → Result (ℕ × Ranges) SysFault
key_derived m seeds count program result =
    if nat_lt max_seeds count then Err TooManySeeds else
    do
      slices ← slices_read m seeds count
      key_written m program result slices

abbrev pub hash_written : Ranges → Env → ℕ → Gathered → SysAnswer
hash_written m env result g = record {
  units = g.units;
  answer = do
    hash ← hash_of g.bytes
    after ← bytes_written m result hash
    Ok (service 0 after (record env { units = g.units }));
}

-- the answer of a call that takes no more units
abbrev pub at_cost : Env → Result Service SysFault → SysAnswer
at_cost env answer = record { units = env.units; answer = answer }

abbrev pub slices_hashed : Ranges → Env → ℕ → Result (List Slice) SysFault → SysAnswer
slices_hashed m env result (Ok slices) = hash_written m env result (gathered m env.units slices)
slices_hashed m env result (Err fault) = at_cost env (Err fault)

unfoldable pub hashed : Ranges → Env → ℕ → ℕ → ℕ → SysAnswer
hashed m env slices count result =
    if nat_lt max_slices count then at_cost env (Err TooManySlices)
    else slices_hashed m env result (slices_read m slices count)

-- the numbers of the rent, 8 bytes each (the project's own)
abbrev pub rent_bytes : List ℕ
rent_bytes = to_le_bytes w64 LAMPORTS_PER_BYTE_YEAR ++ to_le_bytes w64 EXEMPTION_YEARS

unfoldable pub return_set : Ranges → Env → ℕ → ℕ → Result Service SysFault
return_set m env addr len =
    if nat_lt max_returned len then Err ReturnTooLong else
    do
      bytes ← bytes_read m addr len
      Ok (service 0 m (record env { returned = bytes; returned_by = env.program }))

unfoldable pub both_written : Ranges → ℕ → List ℕ → ℕ → List ℕ → Result Ranges SysFault
both_written m to first other second = do
  after ← bytes_written m to first
  bytes_written after other second

-- r0 is the kept length; where it is not 0, the first bytes that are kept and the keeper are
-- written
unfoldable pub return_got : Ranges → List ℕ → Key → ℕ → ℕ → ℕ → Result (ℕ × Ranges) SysFault
return_got m returned keeper to len program =
    if length returned == 0 then Ok (0, m) else
    do
      after ← both_written m to (take (min len (length returned)) returned) program keeper.0
      Ok (length returned, after)

-- what a call does once its cost is taken
abbrev pub effect_of : SystemCall → List ℕ → Ranges → Env → SysAnswer
effect_of Call.Abort r m env = at_cost env (Err Abort)
effect_of Call.Log r m env = at_cost env (logged m env (log_line m (r1 r) (r2 r)))
effect_of Call.Log64 r m env =
    at_cost env (logged m env (Ok (log_64_line (r1 r) (r2 r ∷ r3 r ∷ r4 r ∷ r5 r ∷ []))))
effect_of Call.LogKey r m env = at_cost env (logged m env (log_key_line m (r1 r)))
effect_of Call.LogUnits r m env = at_cost env (logged m env (Ok (log_units_line env.units)))
effect_of Call.Sha256 r m env = hashed m env (r1 r) (r2 r) (r3 r)
effect_of Call.Memcpy r m env = at_cost env (wrote env (bytes_copied m (r1 r) (r2 r) (r3 r) true))
effect_of Call.Memmove r m env = at_cost env (wrote env (bytes_copied m (r1 r) (r2 r) (r3 r) false))
effect_of Call.Memcmp r m env = at_cost env (wrote env (compared m (r1 r) (r2 r) (r3 r) (r4 r)))
effect_of Call.Memset r m env = at_cost env (wrote env (filled m (r1 r) (r2 r) (r3 r)))
effect_of Call.ProgramKey r m env =
    at_cost env (answered env (key_derived m (r1 r) (r2 r) (r3 r) (r4 r)))
effect_of Call.GetSlot r m env =
    at_cost env (wrote env (bytes_written m (r1 r) (to_le_bytes w64 env.slot)))
effect_of Call.GetRent r m env = at_cost env (wrote env (bytes_written m (r1 r) rent_bytes))
effect_of Call.SetReturn r m env = at_cost env (return_set m env (r1 r) (r2 r))
effect_of Call.GetReturn r m env =
    at_cost env (answered env (return_got m env.returned env.returned_by (r1 r) (r2 r) (r3 r)))
effect_of Call.GetHeight r m env = at_cost env (Ok (service env.height m env))

-- the cost is taken first; where fewer units are left, they become 0
abbrev pub after_cost : ℕ → Env → (Env → SysAnswer) → SysAnswer
after_cost cost env effect =
    if nat_lt env.units cost then record { units = 0; answer = Err UnitsSpent }
    else effect (record env { units = env.units - cost })

-- The row of a call that is served: the units then left, and what it gives or the first refusal.
unfoldable pub sys_row : ℕ → List ℕ → Ranges → Env → SysAnswer
sys_row number arguments m env =
    let call = call_numbered number in
    after_cost (cost_of call arguments (length env.returned)) env
    (λ left. effect_of call arguments m left)

-- the units that are left, but after a lack of memory
abbrev pub HasUnits : ℕ → ℕ → Result ℕ SysFault → Type 0
HasUnits wanted units (Ok r0) = wanted ≡ units
HasUnits wanted units (Err fault) = is_sys_memory fault ≡ false → wanted ≡ units

-- What a call says of the row: after Ok the rest of the surroundings stays, after a refusal all but
-- the units, and after a lack of memory too.
abbrev pub Serves : SysAnswer → Ranges → Ranges → Env → Env → Result ℕ SysFault → Type 0
Serves row old new env env' (Ok r0) =
    (row.answer ≡ Ok (service r0 (plain_memory new) env')) × (row.units ≡ env'.units)
Serves row old new env env' (Err no_memory) =
    (plain_memory new ≡ plain_memory old) × (env' ≡ record env { units = env'.units })
Serves row old new env env' (Err fault) =
    (row.answer ≡ Err fault) × (env' ≡ record env { units = row.units })
    × (plain_memory new ≡ plain_memory old)

-- what no call changes
pub record KeepsBlock (env env' : Env) : Type 0 where
  pub slot : env'.slot ≡ env.slot
  pub program : env'.program ≡ env.program
  pub height : env'.height ≡ env.height

-- What the function of a call answers once its cost is taken: what the row gives, or memory ran
-- out.
abbrev pub Does : SysAnswer → Ranges → Ranges → Env → Env → Result ℕ SysFault → Type 0
Does row old new env env' result =
    Gives is_sys_memory (λ r0. service r0 (plain_memory new) env') result row.answer
    × HasUnits row.units env'.units result
    × KeepsBlock env env'
    × (env'.units ≤ env.units)
    × OnErr result ((plain_memory new ≡ plain_memory old)
    × (env' ≡ record env { units = env'.units }))
    × (new.input.lent ≡ old.input.lent)

-- what the function of a call answers that logs a line and leaves every memory as it is
abbrev pub Logs : Result (List ℕ) SysFault → Env → Env → Result ℕ SysFault → Type 0
Logs line env env' result = (m : Ranges)
    → Does (at_cost env (logged (plain_memory m) env line)) m m env env' result

-- a served call leaves a memory with as many bytes in its input, which was made to lend the same
-- accounts
pub record IsServedMemory (old new : Ranges) : Type 0 where
  pub memory : IsMemory old → IsMemory new
  pub input : length new.input.bytes ≡ length old.input.bytes
  pub lent : new.input.lent ≡ old.input.lent
