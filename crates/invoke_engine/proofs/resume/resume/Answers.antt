use Rattle.std.proofs.Common.{◌≡◌, ◌∙◌, ℕ, List, Some, Result, Ok, Err, ap, subst, sym}
use Rattle.sol_base.specs.declared.key.Key.{Key}
use Rattle.sol_base.specs.declared.account.Account.{Account}
use Rattle.abi_input.specs.Region.{patched}
use Rattle.tx_report.specs.declared.status.InstructionError.{InstructionError}
use Rattle.invoke_engine.specs.declared.stopped.Reason.{Reason}
use Rattle.invoke_engine.specs.declared.stopped.Stopped.{Stopped}
use Rattle.invoke_engine.specs.declared.stopped.Stopped.TheVariants.{Refused}
use Rattle.invoke_engine.specs.Frames.{Carried, Running, Ending, Done, height}
use Rattle.invoke_engine.specs.Endings.{closed, closes, error_of}
use Rattle.invoke_engine.specs.Reasons.{by_length, refuse}
use Rattle.invoke_engine.specs.Returning.{PatchesAs, patching, returned}
use Rattle.invoke_engine.specs.Suspended.{programs_of}
use Rattle.invoke_engine.proofs.resume.resume.Goals as goal

-- the end of a frame of this program, which had so many units, and whose machine stands at a place
abbrev closes_at : List Key → ℕ → Carried → Reason → Key → ℕ → ℕ → Ending
closes_at outer units c reason program had place =
    closed program had units (record c { stopped_at = Some (record { program = program; slot = place; access = reason.access }) }) (Err (error_of (height outer) (Refused reason)))

refusal : (i : ℕ) (reason : Reason) → refuse by_length (let r : Result (List ℕ) ℕ = Err i in r) ≡ Err (Refused reason) → by_length i ≡ Refused reason
refusal i reason h = cc

-- a patch that was refused ends the caller where its machine stood before it
patch_refused : (outer : List Key) (f g : Running) (accounts : List Account) (units : ℕ) (c : Carried)
    (reason : Reason) (wanted : Result (List ℕ) ℕ) (e : Ending) → refuse by_length wanted ≡ Err (Refused reason)
    → g.program ≡ f.program → g.had ≡ f.had → g.machine.place ≡ f.machine.place
    → e ≡ closes outer g units c (Err (Refused reason)) → patching outer f accounts units c wanted ≡ Done e
patch_refused outer f g accounts units c reason (Ok region) e refused program had place is = absurd (cc)
patch_refused outer f g accounts units c reason (Err i) e refused program had place is =
    let same : closes outer g units c (Err (Refused reason)) ≡ closes outer f units c (Err (Refused reason)) =
    ap (λ (k : Key). closes_at outer units c reason k g.had g.machine.place) program
    ∙ ap (λ (n : ℕ). closes_at outer units c reason f.program n g.machine.place) had
    ∙ ap (λ (n : ℕ). closes_at outer units c reason f.program f.had n) place in
    ap Done (ap (λ (s : Stopped). closes outer f units c (Err s)) (refusal i reason refused) ∙ sym (is ∙ same))

return_refused : (outer : List Key) (f g : Running) (result : Result (List Account) InstructionError)
    (accounts : List Account) (units : ℕ) (c : Carried) (reason : Reason) (e : Ending) → result ≡ Ok accounts
    → refuse by_length (patched f.machine.context.memory.input.bytes f.start accounts f.metas)
    ≡ Err (Refused reason) → g.program ≡ f.program → g.had ≡ f.had → g.machine.place ≡ f.machine.place
    → e ≡ closes outer g units c (Err (Refused reason)) → returned outer f (record { units = units; carried = c; result = result }) ≡ Done e
unfolding returned
return_refused outer f g result accounts units c reason e good refused program had place is =
    rw good (patch_refused outer f g accounts units c reason (patched f.machine.context.memory.input.bytes f.start accounts f.metas) e refused program had place is)

pub returns-in-Err-Refused-clause-next : goal.returns-in-Err-Refused-clause-next
returns-in-Err-Refused-clause-next c =
    let told : PatchesAs (patched c.args.frame.machine.context.memory.input.bytes c.args.frame.start
    c.in-Ok.accounts c.args.frame.metas) c.in-Ok.accounts c.args.frame c.write_over.new.frame
    (Err (Refused c.in-Err-Refused.reason)) =
    subst (λ (s : Stopped). PatchesAs
    (patched c.args.frame.machine.context.memory.input.bytes c.args.frame.start c.in-Ok.accounts
    c.args.frame.metas) c.in-Ok.accounts c.args.frame c.write_over.new.frame (Err s))
    c.in-Err-Refused.field-0-is c.in-Err-Refused.ensures.answer in
    return_refused (programs_of c.args.outer.now) c.args.frame c.write_over.new.frame c.args.ending.result
    c.in-Ok.accounts c.args.ending.units c.args.carrier.now c.in-Err-Refused.reason _ c.in-Ok.is told.0
    told.1 told.2 told.3
    (c.in_ok-ending-in-Err-Refused.ensures
    ∙ ap (λ (r : Reason). closes (programs_of c.args.outer.now) c.write_over.new.frame c.args.ending.units
    c.args.carrier.now (Err (Refused r))) c.in-Err-Refused.reason-is)
