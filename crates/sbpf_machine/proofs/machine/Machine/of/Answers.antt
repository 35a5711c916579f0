use Rattle.std.proofs.Common.{◌≡◌, [], Some, sym, ap, ◌∙◌, ℕ, List, subst}
use Rattle.std.specs.Prelude.{slice_get}
use Rattle.std.specs.Arc.{arc_value}
use Rattle.sbpf_verify.specs.Verified.{IsVerified}
use Rattle.sbpf_verify.proofs.Starts.{first_start}
use Rattle.sbpf_machine.specs.declared.frames.Kept.{Kept}
use Rattle.sbpf_machine.proofs.machine.Machine.of.Goals as goal

no_frame : (frames : List Kept) (k : ℕ) (frame : Kept) {P : Type 0} → frames ≡ [] → slice_get frames k ≡ Some frame → P
no_frame frames k frame none h = let there : slice_get [] k ≡ Some frame = ap (λ (l : List Kept). slice_get l k) (sym none) ∙ h in absurd (cc)

pub invariant_of-result : goal.invariant_of-result
invariant_of-result c =
    let verified : IsVerified (arc_value c.args.code) = subst IsVerified c.deref.ensures c.entries-entries.ensures.verified in
    record { verified = verified; start = first_start _ verified; backs = λ k frame h. no_frame _ k frame c.new.ensures h; next = λ h. absurd h; number = tt }
