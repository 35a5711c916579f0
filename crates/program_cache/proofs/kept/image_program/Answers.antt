use Rattle.std.proofs.Common.{◌≡◌, List, ◌++◌, ℕ, sym, ap, subst, ◌∙◌, length, arith}
use Rattle.sbpf_verify.specs.Images.{ImageParts}
use Rattle.sbpf_verify.specs.Verified.{unfit, IsVerified}
use Rattle.program_cache.specs.Ready.{ReadyImage}
use Rattle.program_cache.specs.Programs.{IsReady, judged}
use Rattle.program_cache.proofs.ProgramLaws.{judged_verified}
use Rattle.program_cache.proofs.kept.image_program.Goals as goal

pub of-requires : goal.of-requires
of-requires c =
    let same : c.in-Ok.program ≡ c.args.text.now = c.in-Ok.ensures.0 ∙ c.in_ok-from_slice.ensures in
    let long : length c.in-Ok.program ≡ length c.args.text.now = ap length same in
    omega (arith, long, c.requires)

pub returns-in_ok-of-in-Ok : goal.returns-in_ok-of-in-Ok
returns-in_ok-of-in-Ok c =
    let same : c.in-Ok.program ≡ c.args.text.now = c.in-Ok.ensures.0 ∙ c.in_ok-from_slice.ensures in
    let verified : IsVerified c.args.text.now = subst IsVerified c.in_ok-from_slice.ensures c.in-Ok.ensures.1 in
    let image : ImageParts = record { text = c.args.text.now; constants = c.args.constants.now } in
    ap (λ (ready : ReadyImage). IsReady ready) (c.in_ok-of-in-Ok.ensures ∙ ap (λ (text : List ℕ). let ready : ReadyImage = record { text = text; bytes = text ++ c.args.constants.now } in ready) same)
    ∙ sym (judged_verified image verified)

pub returns-in-Err : goal.returns-in-Err
returns-in-Err c =
    let image : ImageParts = record { text = c.args.text.now; constants = c.args.constants.now } in
    sym (ap (judged image) (ap unfit (sym c.in_ok-from_slice.ensures) ∙ c.in-Err.ensures.1))
