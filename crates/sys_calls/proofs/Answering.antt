-- From what a function of a call answers to what the served call says.
use Rattle.std.proofs.Common.{◌≡◌, ℕ, ◌-◌, true, false, List, length, Result, Ok, Err, refl, sym, ap, subst, ◌∙◌, if◌then◌else◌}
use Rattle.std.specs.Prelude.{nat_lt}
use Rattle.sbpf_memory.specs.Memory.{Ranges}
use Rattle.sbpf_memory.specs.Plain.{plain_memory}
use Rattle.sys_calls.specs.declared.env.Env.{Env}
use Rattle.sys_calls.specs.declared.fault.SysFault.{SysFault}
use Rattle.sys_calls.specs.declared.fault.SysFault.TheVariants.{Abort, AccessViolation, Overlap, UnitsSpent, TooManySeeds, ReturnTooLong, BadText, TooManySlices, OutOfMemory as no_memory}
use Rattle.sys_calls.specs.Costs.{call_numbered, cost_of}
use Rattle.sys_calls.specs.SysCalls.{SysAnswer, Serves, Does, Logs, IsServedMemory, service, logged, at_cost, effect_of, sys_row}
use Rattle.sys_calls.specs.declared.table.SystemCall.{SystemCall}
use Rattle.sys_calls.proofs.Loops.{charge-paid}
use Rattle.sys_calls.proofs.Pieces.{memory-plain, memory-bare}
use Rattle.sys_calls.proofs.Rows.{same, sys_row-memory}

-- a refusal of the row, after which all but the units is as before
refused : (row : SysAnswer) (old new : Ranges) (env env' : Env) (units : ℕ) (fault : SysFault)
    → row.answer ≡ Err fault → row.units ≡ env'.units
    → (plain_memory new ≡ plain_memory old)
    × (env' ≡ record (record env { units = units }) { units = env'.units })
    → (row.answer ≡ Err fault) × (env' ≡ record env { units = row.units }) × (plain_memory new ≡ plain_memory old)
refused row old new env env' units fault answer left kept =
    (answer, kept.1 ∙ ap (λ (n : ℕ). let e : Env = record env { units = n } in e) (sym left), kept.0)

pub does-serves : (row : SysAnswer) (old new : Ranges) (env env' : Env) (units : ℕ) (result : Result ℕ SysFault)
    → Does row old new (record env { units = units }) env' result → Serves row old new env env' result
does-serves row old new env env' units (Ok r0) does = (does.0, does.1)
does-serves row old new env env' units (Err no_memory) does = (does.4.0, does.4.1)
does-serves row old new env env' units (Err Abort) does = refused row old new env env' units Abort does.0 (does.1 refl) does.4
does-serves row old new env env' units (Err (AccessViolation v)) does = refused row old new env env' units (AccessViolation v) does.0 (does.1 refl) does.4
does-serves row old new env env' units (Err Overlap) does = refused row old new env env' units Overlap does.0 (does.1 refl) does.4
does-serves row old new env env' units (Err UnitsSpent) does = refused row old new env env' units UnitsSpent does.0 (does.1 refl) does.4
does-serves row old new env env' units (Err TooManySeeds) does = refused row old new env env' units TooManySeeds does.0 (does.1 refl) does.4
does-serves row old new env env' units (Err ReturnTooLong) does = refused row old new env env' units ReturnTooLong does.0 (does.1 refl) does.4
does-serves row old new env env' units (Err BadText) does = refused row old new env env' units BadText does.0 (does.1 refl) does.4
does-serves row old new env env' units (Err TooManySlices) does = refused row old new env env' units TooManySlices does.0 (does.1 refl) does.4

-- the row where too few units are left
pub row-spent : (number : ℕ) (arguments : List ℕ) (m : Ranges) (env : Env)
    → nat_lt env.units (cost_of (call_numbered number) arguments (length env.returned)) ≡ true
    → sys_row number arguments m env ≡ record { units = 0; answer = Err UnitsSpent }
unfolding sys_row
row-spent number arguments m env spent = rw spent refl

-- the row once the cost is taken
pub row-paid : (number : ℕ) (arguments : List ℕ) (m : Ranges) (env : Env) → nat_lt env.units (cost_of (call_numbered number) arguments (length env.returned)) ≡ false
    → sys_row number arguments m env ≡ effect_of (call_numbered number) arguments m (record env { units = env.units - cost_of (call_numbered number) arguments (length env.returned) })
unfolding sys_row
row-paid number arguments m env paid = rw paid refl

-- what a call says that finds too few units
pub spent-serves : (row : SysAnswer) (m : Ranges) (env : Env) (units : ℕ)
    → row ≡ record { units = 0; answer = Err UnitsSpent } → units ≡ 0
    → Serves row m m env (record env { units = units }) (Err UnitsSpent)
spent-serves row m env units is none =
    let left : row.units ≡ 0 = ap (λ (r : SysAnswer). r.units) is in
    (ap (λ (r : SysAnswer). r.answer) is, ap (λ (n : ℕ). let e : Env = record env { units = n } in e) (none ∙ sym left), refl)

-- what a call says once its cost is taken
pub served : (number : ℕ) (arguments : List ℕ) (old new : Ranges) (env env' : Env) (units cost kept : ℕ)
    (call : SystemCall) (result : Result ℕ SysFault) → call ≡ call_numbered number → kept ≡ length env.returned
    → cost ≡ cost_of call arguments kept
    → (let r : Result (Unit {0}) SysFault = Ok tt in r) ≡ (if nat_lt env.units cost then Err UnitsSpent else Ok tt) → units ≡ env.units - cost
    → Does (effect_of call arguments (plain_memory old) (record env { units = units })) old new
    (record env { units = units }) env' result
    → Serves (sys_row number arguments (plain_memory old) env) old new env env' result
served number arguments old new env env' units cost kept call result call_is kept_is cost_is taken left does =
    let all = cost_of (call_numbered number) arguments (length env.returned) in
    let e : cost ≡ all = cost_is ∙ ap (λ (k : SystemCall). cost_of k arguments kept) call_is ∙ ap (λ (n : ℕ). cost_of (call_numbered number) arguments n) kept_is in
    let paid : nat_lt env.units all ≡ false = sym (ap (λ (n : ℕ). nat_lt env.units n) e) ∙ charge-paid (nat_lt env.units cost) taken in
    let by_call : Does (effect_of (call_numbered number) arguments (plain_memory old) (record env { units = units })) old new (record env { units = units }) env' result =
    subst (λ (k : SystemCall). Does (effect_of k arguments (plain_memory old) (record env { units = units })) old new (record env { units = units }) env' result) call_is does in
    let by_units : Does (effect_of (call_numbered number) arguments (plain_memory old) (record env { units = env.units - all })) old new (record env { units = env.units - all }) env' result =
    subst (λ (n : ℕ). Does (effect_of (call_numbered number) arguments (plain_memory old)
    (record env { units = n })) old new (record env { units = n }) env' result)
    (left ∙ ap (λ (n : ℕ). env.units - n) e) by_call in
    subst (λ (row : SysAnswer). Serves row old new env env' result) (sym (row-paid number arguments (plain_memory old) env paid))
    (does-serves (effect_of (call_numbered number) arguments (plain_memory old) (record env { units = env.units - all })) old new env env' (env.units - all) result by_units)

-- what a memory without its notes keeps it keeps with them
plain-served : (old new : Ranges) → new.input.lent ≡ old.input.lent → IsServedMemory (plain_memory old) (plain_memory new) → IsServedMemory old new
plain-served old new lent served = record {
  memory = λ is. memory-bare new (served.memory (memory-plain old is));
  input = served.input;
  lent = lent;
}

stays-served : (old new : Ranges) → new.input.lent ≡ old.input.lent → plain_memory new ≡ plain_memory old → IsServedMemory old new
stays-served old new lent kept = plain-served old new lent (subst (IsServedMemory (plain_memory old)) (sym kept) (same (plain_memory old)))

-- what a served call keeps of the memory
pub serves-memory : (number : ℕ) (arguments : List ℕ) (old new : Ranges) (env env' : Env)
    (result : Result ℕ SysFault) → new.input.lent ≡ old.input.lent
    → Serves (sys_row number arguments (plain_memory old) env) old new env env' result → IsServedMemory old new
serves-memory number arguments old new env env' (Ok r0) lent serves = plain-served old new lent (sys_row-memory number arguments (plain_memory old) env (service r0 (plain_memory new) env') serves.0)
serves-memory number arguments old new env env' (Err no_memory) lent serves = stays-served old new lent serves.0
serves-memory number arguments old new env env' (Err Abort) lent serves = stays-served old new lent serves.2
serves-memory number arguments old new env env' (Err (AccessViolation v)) lent serves = stays-served old new lent serves.2
serves-memory number arguments old new env env' (Err Overlap) lent serves = stays-served old new lent serves.2
serves-memory number arguments old new env env' (Err UnitsSpent) lent serves = stays-served old new lent serves.2
serves-memory number arguments old new env env' (Err TooManySeeds) lent serves = stays-served old new lent serves.2
serves-memory number arguments old new env env' (Err ReturnTooLong) lent serves = stays-served old new lent serves.2
serves-memory number arguments old new env env' (Err BadText) lent serves = stays-served old new lent serves.2
serves-memory number arguments old new env env' (Err TooManySlices) lent serves = stays-served old new lent serves.2

-- a line that was made is added
pub line-added : (line : Result (List ℕ) SysFault) (text slice : List ℕ) (env env' : Env)
    (result : Result ℕ SysFault) → line ≡ Ok text → slice ≡ text → Logs (Ok slice) env env' result
    → Logs line env env' result
line-added line text slice env env' result made same logs =
    subst (λ (l : Result (List ℕ) SysFault). Logs l env env' result) (ap (λ (t : List ℕ). let r : Result (List ℕ) SysFault = Ok t in r) same ∙ sym made) logs

-- what a call does that logs a line
pub logs-does : (row : SysAnswer) (line : Result (List ℕ) SysFault) (m : Ranges) (env env' : Env)
    (result : Result ℕ SysFault) → row ≡ at_cost env (logged (plain_memory m) env line)
    → Logs line env env' result → Does row m m env env' result
logs-does row line m env env' result is logs = subst (λ (a : SysAnswer). Does a m m env env' result) (sym is) (logs m)
