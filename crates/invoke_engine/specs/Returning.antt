-- A caller after its callee: it fails with it, or its region is patched and its machine goes on
-- with 0 in r0 (Solana; the cause of a refused patch is the project's own).
use Rattle.std.specs.Prelude.{◌≡◌, ℕ, List, Result, Ok, Err}
use Rattle.sol_base.specs.declared.key.Key.{Key}
use Rattle.sol_base.specs.declared.account.Account.{Account}
use Rattle.sbpf_machine.specs.Lending.{with_memory}
use Rattle.abi_input.specs.Region.{patched}
use Rattle.tx_report.specs.declared.status.InstructionError.{InstructionError}
use Rattle.invoke_engine.specs.declared.stopped.Stopped.{Stopped}
use Rattle.invoke_engine.specs.declared.stopped.Stopped.TheVariants.{Refused, OutOfMemory as no_memory}
use Rattle.invoke_engine.specs.Reasons.{by_length, refuse}
use Rattle.invoke_engine.specs.Frames.{Carried, Running, Ending, Next, Runs, Done}
use Rattle.invoke_engine.specs.Endings.{closed, closes}
use Rattle.invoke_engine.specs.Serving.{onward}

abbrev pub patching : List Key → Running → List Account → ℕ → Carried → Result (List ℕ) ℕ → Next
patching outer f accounts units c (Err i) = Done (closes outer f units c (Err (by_length i)))
patching outer f accounts units c (Ok region) =
    let memory = f.machine.context.memory in
    Runs (record (onward f (record memory { input = record memory.input { bytes = region } }) units
    0) { before = accounts }) c

abbrev pub returning : List Key → Running → ℕ → Carried → Result (List Account) InstructionError
    → Next
returning outer f units c (Err error) = Done (closed f.program f.had units c (Err error))
returning outer f units c (Ok accounts) =
    patching outer f accounts units c
    (patched f.machine.context.memory.input.bytes f.start accounts f.metas)

unfoldable pub returned : List Key → Running → Ending → Next
returned outer f e = returning outer f e.units e.carried e.result

-- the caller's region was patched with the accounts, which it has now, or it stopped as the
-- definition says
abbrev pub PatchesAs : Result (List ℕ) ℕ → List Account → Running → Running
    → Result (Unit {0}) Stopped → Type 0
PatchesAs wanted accounts f g (Ok _) =
    let old = f.machine.context.memory in
    let new = g.machine.context.memory in
    (wanted ≡ Ok new.input.bytes)
    × (g ≡ record f { before = accounts; machine = with_memory f.machine new })
    × (new ≡ record old { input = record old.input { bytes = new.input.bytes } })
PatchesAs wanted accounts f g (Err no_memory) = Unit {0}
PatchesAs wanted accounts f g (Err (Refused reason)) =
    (refuse by_length wanted ≡ Err (Refused reason)) × (g.program ≡ f.program) × (g.had ≡ f.had)
    × (g.machine.place ≡ f.machine.place)
