use Rattle.std.proofs.Common.{◌≡◌, sym, subst}
use Rattle.std.specs.Prelude.{IfOk}
use Rattle.sol_base.specs.Accounts.{max_data_len}
use Rattle.sbpf_verify.specs.Images.{ImageParts}
use Rattle.program_cache.specs.Programs.{Sought}
use Rattle.program_cache.specs.Kept.{kept_as}
use Rattle.program_cache.proofs.ProgramLaws.{program_bad, program_image, parts_are_short}
use Rattle.program_cache.proofs.kept.program_of.Goals as goal

pub returns-in-None : goal.returns-in-None
returns-in-None c = sym (program_bad c.args.bytes.now (sym c.in-None.ensures))

pub image_program-requires : goal.image_program-requires
image_program-requires c =
    let image : ImageParts = record { text = c.in-Some.image.text.now; constants = c.in-Some.image.constants.now } in
    parts_are_short c.args.bytes.now image max_data_len (sym c.in-Some.ensures) c.requires

pub returns-in-Some : goal.returns-in-Some
returns-in-Some c =
    let image : ImageParts = record { text = c.in-Some.image.text.now; constants = c.in-Some.image.constants.now } in
    subst (λ (found : Sought). IfOk c.image_program.result (λ kept. kept_as kept ≡ found)) (sym (program_image c.args.bytes.now image (sym c.in-Some.ensures))) c.image_program.ensures
