-- What rows keep: sizes of memories; and they gain no units.
use Rattle.std.proofs.Common.{◌≡◌, ℕ, ◌-◌, ◌≤◌, Bool, true, false, List, [], ◌∷◌, length, take, Result, Ok, Err, refl, subst, ◌∙◌, arith}
use Rattle.std.specs.Prelude.{nat_lt, min, ◌==◌, if◌then◌else◌}
use Rattle.std.specs.Int.{w32, to_le_bytes}
use Rattle.spec_base.specs.Reading.{◌>>=◌}
use Rattle.sol_base.specs.declared.key.Key.{Key}
use Rattle.sol_base.specs.declared.derived.SeedsFault.{SeedsFault}
use Rattle.sol_base.specs.DerivedKeys.{max_seeds, program_key_of}
use Rattle.sbpf_memory.specs.Memory.{Ranges, read_from, write_to, or_overlap, copy_of, copy_to}
use Rattle.sbpf_memory.specs.declared.fault.AccessViolation.{AccessViolation as Violation}
use Rattle.sbpf_memory.proofs.ByAddress.{write-memory}
use Rattle.sbpf_memory.proofs.Keeping.{write-kept}
use Rattle.sys_calls.specs.declared.env.Env.{Env}
use Rattle.sys_calls.specs.declared.slices.Slice.{Slice}
use Rattle.sys_calls.specs.declared.table.SystemCall.{SystemCall}
use Rattle.sys_calls.specs.declared.table.SystemCall.TheVariants as Call
use Rattle.sys_calls.specs.declared.fault.SysFault.{SysFault}
use Rattle.sys_calls.specs.declared.fault.SysFault.TheVariants.{UnitsSpent, TooManySeeds, TooManySlices, ReturnTooLong}
use Rattle.sys_calls.specs.Access.{or_violation, or_fault, bytes_read, bytes_written, bytes_copied}
use Rattle.sys_calls.specs.Slices.{Gathered, slices_read, has_long_slice, all_read, gathered, hash_of, after_read, slice_cost, slice_read}
use Rattle.sys_calls.specs.Costs.{call_numbered, cost_of, max_returned, max_slices}
use Rattle.sys_calls.specs.SysCalls.{Service, SysAnswer, IsServedMemory, service, logged, answered, wrote, compared, first_difference, key_derived, key_written, key_or_one, hashed, slices_hashed, at_cost, return_set, both_written, return_got, effect_of, sys_row}

pub same : (m : Ranges) → IsServedMemory m m
same m = record { memory = λ is. is; input = refl; lent = refl }

pub written : (m after : Ranges) (addr : ℕ) (bytes : List ℕ) → write_to m addr bytes ≡ Ok after → IsServedMemory m after
written m after addr bytes h =
    let kept = write-kept m after addr bytes h in
    record { memory = λ is. write-memory m after addr bytes is h; input = kept.input; lent = kept.lent }

abbrev Kept : Ranges → Result Ranges SysFault → Type 0
Kept m (Ok after) = IsServedMemory m after
Kept m (Err e) = Unit {0}

abbrev KeptWith : Ranges → Result (ℕ × Ranges) SysFault → Type 0
KeptWith m (Ok r) = IsServedMemory m r.1
KeptWith m (Err e) = Unit {0}

abbrev KeptBy : Ranges → Result Service SysFault → Type 0
KeptBy m (Ok s) = IsServedMemory m s.memory
KeptBy m (Err e) = Unit {0}

written-kept : (m : Ranges) (addr : ℕ) (bytes : List ℕ) → Kept m (bytes_written m addr bytes)
written-kept m addr bytes = by_case (write_to m addr bytes) refl
  where
    by_case : (r : Result Ranges Violation) → write_to m addr bytes ≡ r → Kept m (or_violation r)
    by_case (Ok after) h = written m after addr bytes h
    by_case (Err v) h = tt

overlap-kept : (m : Ranges) (addr : ℕ) (bytes : List ℕ) (b : Bool) (r : Result Ranges Violation) → write_to m addr bytes ≡ r → Kept m (or_fault (or_overlap b r))
overlap-kept m addr bytes true (Ok after) h = tt
overlap-kept m addr bytes false (Ok after) h = written m after addr bytes h
overlap-kept m addr bytes b (Err v) h = tt

pub copied-kept : (m : Ranges) (to from len : ℕ) (apart : Bool) → Kept m (bytes_copied m to from len apart)
unfolding copy_to
copied-kept m to from len apart = by_case _ (read_from m from len)
  where
    by_case : (b : Bool) (r : Result (List ℕ) Violation) → Kept m (or_fault (copy_of m to b r))
    by_case b (Ok bytes) = overlap-kept m to bytes b (write_to m to bytes) refl
    by_case b (Err v) = tt

compared-kept : (m : Ranges) (a b count result : ℕ) → Kept m (compared m a b count result)
unfolding compared
compared-kept m a b count result = by_case (bytes_read m a count) (bytes_read m b count)
  where
    by_case : (one other : Result (List ℕ) SysFault) → Kept m (one >>= (λ x. other >>= (λ y. bytes_written m result (to_le_bytes w32 (first_difference x y)))))
    by_case (Ok x) (Ok y) = written-kept m result (to_le_bytes w32 (first_difference x y))
    by_case (Ok x) (Err e) = tt
    by_case (Err e) other = tt

and_r0 : (m : Ranges) (r0 : ℕ) (r : Result Ranges SysFault) → Kept m r → KeptWith m (r >>= (λ after. Ok (r0, after)))
and_r0 m r0 (Ok after) kept = kept
and_r0 m r0 (Err e) kept = tt

key_or_one-kept : (m : Ranges) (result : ℕ) (key : Result Key SeedsFault) → KeptWith m (key_or_one m result key)
key_or_one-kept m result (Ok key) = and_r0 m 0 (bytes_written m result key.0) (written-kept m result key.0)
key_or_one-kept m result (Err e) = same m

key_written-kept : (m : Ranges) (program result : ℕ) (slices : List Slice) → KeptWith m (key_written m program result slices)
unfolding key_written
key_written-kept m program result slices = by_case (has_long_slice slices) (all_read m slices) (bytes_read m program 32)
  where
    by_case : (long : Bool) (seeds : Result (List (List ℕ)) SysFault) (key : Result (List ℕ) SysFault)
        → KeptWith m (if long then Ok (1, m) else seeds >>=
        (λ s. key >>= (λ k. key_or_one m result (program_key_of s (record { 0 = k })))))
    by_case true seeds key = same m
    by_case false (Ok s) (Ok k) = key_or_one-kept m result (program_key_of s (record { 0 = k }))
    by_case false (Ok s) (Err e) = tt
    by_case false (Err e) key = tt

key_derived-kept : (m : Ranges) (seeds count program result : ℕ) → KeptWith m (key_derived m seeds count program result)
unfolding key_derived
key_derived-kept m seeds count program result = by_case (nat_lt max_seeds count) (slices_read m seeds count)
  where
    by_case : (many : Bool) (slices : Result (List Slice) SysFault) → KeptWith m (if many then Err TooManySeeds else slices >>= (λ s. key_written m program result s))
    by_case true slices = tt
    by_case false (Ok s) = key_written-kept m program result s
    by_case false (Err e) = tt

then-kept : (m : Ranges) (other : ℕ) (second : List ℕ) (r : Result Ranges SysFault) → Kept m r → Kept m (r >>= (λ after. bytes_written after other second))
then-kept m other second (Err e) kept = tt
then-kept m other second (Ok after) kept = by_case (bytes_written after other second) (written-kept after other second)
  where
    by_case : (r : Result Ranges SysFault) → Kept after r → Kept m r
    by_case (Ok last) k = record { memory = λ is. k.memory (kept.memory is); input = k.input ∙ kept.input; lent = k.lent ∙ kept.lent }
    by_case (Err e) k = tt

both-kept : (m : Ranges) (to : ℕ) (first : List ℕ) (other : ℕ) (second : List ℕ) → Kept m (both_written m to first other second)
unfolding both_written
both-kept m to first other second = then-kept m other second (bytes_written m to first) (written-kept m to first)

got-kept : (m : Ranges) (returned : List ℕ) (keeper : Key) (to len program : ℕ) → KeptWith m (return_got m returned keeper to len program)
unfolding return_got
got-kept m returned keeper to len program = by_case (length returned == 0)
  where
    by_case : (none : Bool) → KeptWith m (if none then Ok (0, m) else both_written m to (take (min len (length returned)) returned) program keeper.0 >>= (λ after. Ok (length returned, after)))
    by_case true = same m
    by_case false = and_r0 m (length returned) _ (both-kept m to (take (min len (length returned)) returned) program keeper.0)

wrote-kept : (m : Ranges) (env : Env) (r : Result Ranges SysFault) → Kept m r → KeptBy m (wrote env r)
wrote-kept m env (Ok after) kept = kept
wrote-kept m env (Err e) kept = tt

answered-kept : (m : Ranges) (env : Env) (r : Result (ℕ × Ranges) SysFault) → KeptWith m r → KeptBy m (answered env r)
answered-kept m env (Ok r) kept = kept
answered-kept m env (Err e) kept = tt

logged-kept : (m : Ranges) (env : Env) (line : Result (List ℕ) SysFault) → KeptBy m (logged m env line)
logged-kept m env (Ok line) = same m
logged-kept m env (Err e) = tt

hash_written-kept : (m : Ranges) (env : Env) (result units : ℕ) (hash : Result (List ℕ) SysFault)
    → KeptBy m (hash >>= (λ h. bytes_written m result h >>=
    (λ after. Ok (service 0 after (record env { units = units })))))
hash_written-kept m env result units (Err e) = tt
hash_written-kept m env result units (Ok hash) = wrote-kept m (record env { units = units }) (bytes_written m result hash) (written-kept m result hash)

hashed-kept : (m : Ranges) (env : Env) (slices count result : ℕ) → KeptBy m (hashed m env slices count result).answer
unfolding hashed
hashed-kept m env slices count result = by_case (nat_lt max_slices count) (slices_read m slices count)
  where
    by_case : (many : Bool) (r : Result (List Slice) SysFault) → KeptBy m (if many then at_cost env (Err TooManySlices) else slices_hashed m env result r).answer
    by_case true r = tt
    by_case false (Ok s) = hash_written-kept m env result (gathered m env.units s).units (hash_of (gathered m env.units s).bytes)
    by_case false (Err e) = tt

set-kept : (m : Ranges) (env : Env) (addr len : ℕ) → KeptBy m (return_set m env addr len)
unfolding return_set
set-kept m env addr len = by_case (nat_lt max_returned len) (bytes_read m addr len)
  where
    by_case : (long : Bool) (r : Result (List ℕ) SysFault)
        → KeptBy m (if long then Err ReturnTooLong else r >>=
        (λ bytes. Ok (service 0 m (record env { returned = bytes; returned_by = env.program }))))
    by_case true r = tt
    by_case false (Ok bytes) = same m
    by_case false (Err e) = tt

effect-kept : (call : SystemCall) (r : List ℕ) (m : Ranges) (env : Env) → KeptBy m (effect_of call r m env).answer
effect-kept Call.Abort r m env = tt
effect-kept Call.Log r m env = logged-kept m env _
effect-kept Call.Log64 r m env = same m
effect-kept Call.LogKey r m env = logged-kept m env _
effect-kept Call.LogUnits r m env = same m
effect-kept Call.Sha256 r m env = hashed-kept m env _ _ _
effect-kept Call.Memcpy r m env = wrote-kept m env _ (copied-kept m _ _ _ _)
effect-kept Call.Memmove r m env = wrote-kept m env _ (copied-kept m _ _ _ _)
effect-kept Call.Memcmp r m env = wrote-kept m env _ (compared-kept m _ _ _ _)
effect-kept Call.Memset r m env = wrote-kept m env _ (written-kept m _ _)
effect-kept Call.ProgramKey r m env = answered-kept m env _ (key_derived-kept m _ _ _ _)
effect-kept Call.GetSlot r m env = wrote-kept m env _ (written-kept m _ _)
effect-kept Call.GetRent r m env = wrote-kept m env _ (written-kept m _ _)
effect-kept Call.SetReturn r m env = set-kept m env _ _
effect-kept Call.GetReturn r m env = answered-kept m env _ (got-kept m _ _ _ _ _)
effect-kept Call.GetHeight r m env = same m

row-kept : (number : ℕ) (arguments : List ℕ) (m : Ranges) (env : Env) → KeptBy m (sys_row number arguments m env).answer
unfolding sys_row
row-kept number arguments m env = by_case (nat_lt env.units (cost_of (call_numbered number) arguments (length env.returned)))
  where
    by_case : (spent : Bool) → KeptBy m
        (if spent then (let a : SysAnswer = record { units = 0; answer = Err UnitsSpent } in a) else effect_of
        (call_numbered number) arguments m
        (record env {
          units = env.units - cost_of (call_numbered number) arguments (length env.returned);
        })).answer
    by_case true = tt
    by_case false = effect-kept (call_numbered number) arguments m _

by_answer : (m : Ranges) (r : Result Service SysFault) (s : Service) → KeptBy m r → r ≡ Ok s → IsServedMemory m s.memory
by_answer m (Ok t) s kept h = let e : t ≡ s = cc in subst (λ (x : Service). IsServedMemory m x.memory) e kept
by_answer m (Err e) s kept h = absurd (cc)

-- what a served call keeps of the memory
pub sys_row-memory : (number : ℕ) (arguments : List ℕ) (m : Ranges) (env : Env) (s : Service) → (sys_row number arguments m env).answer ≡ Ok s → IsServedMemory m s.memory
sys_row-memory number arguments m env s h = by_answer m (sys_row number arguments m env).answer s (row-kept number arguments m env) h

after-units : (units : ℕ) (r : Result (List ℕ) SysFault) (g : Gathered) → g.units ≤ units → (after_read units r g).units ≤ units
after-units units (Ok bytes) g h = h
after-units units (Err e) g h = omega arith

pub gathered-units : (m : Ranges) (units : ℕ) (slices : List Slice) → (gathered m units slices).units ≤ units
unfolding gathered
gathered-units m units [] = omega arith
gathered-units m units (slice ∷ slices) =
    let left = units - slice_cost slice.len in
    let k = after-units left (slice_read m units slice) (gathered m left slices) (gathered-units m left slices) in
    omega (arith, k)

hashed-units : (m : Ranges) (env : Env) (slices count result : ℕ) → (hashed m env slices count result).units ≤ env.units
unfolding hashed
hashed-units m env slices count result = by_case (nat_lt max_slices count) (slices_read m slices count)
  where
    by_case : (many : Bool) (r : Result (List Slice) SysFault) → (if many then at_cost env (Err TooManySlices) else slices_hashed m env result r).units ≤ env.units
    by_case true r = omega arith
    by_case false (Ok s) = gathered-units m env.units s
    by_case false (Err e) = omega arith

effect-units : (call : SystemCall) (r : List ℕ) (m : Ranges) (env : Env) → (effect_of call r m env).units ≤ env.units
effect-units Call.Sha256 r m env = hashed-units m env _ _ _
effect-units Call.Abort r m env = omega arith
effect-units Call.Log r m env = omega arith
effect-units Call.Log64 r m env = omega arith
effect-units Call.LogKey r m env = omega arith
effect-units Call.LogUnits r m env = omega arith
effect-units Call.Memcpy r m env = omega arith
effect-units Call.Memmove r m env = omega arith
effect-units Call.Memcmp r m env = omega arith
effect-units Call.Memset r m env = omega arith
effect-units Call.ProgramKey r m env = omega arith
effect-units Call.GetSlot r m env = omega arith
effect-units Call.GetRent r m env = omega arith
effect-units Call.SetReturn r m env = omega arith
effect-units Call.GetReturn r m env = omega arith
effect-units Call.GetHeight r m env = omega arith

-- no call gains units
pub sys_row-units : (number : ℕ) (arguments : List ℕ) (m : Ranges) (env : Env) → (sys_row number arguments m env).units ≤ env.units
unfolding sys_row
sys_row-units number arguments m env = by_case (nat_lt env.units (cost_of (call_numbered number) arguments (length env.returned)))
  where
    by_case : (spent : Bool) → (if spent then
        (let a : SysAnswer = record { units = 0; answer = Err UnitsSpent } in a) else effect_of
        (call_numbered number) arguments m
        (record env {
          units = env.units - cost_of (call_numbered number) arguments (length env.returned);
        })).units ≤ env.units
    by_case true = omega arith
    by_case false =
        let k = effect-units (call_numbered number) arguments m (record env { units = env.units - cost_of (call_numbered number) arguments (length env.returned) }) in
        omega (arith, k)
