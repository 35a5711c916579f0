use Rattle.std.proofs.Common.{◌≤◌, ◌*◌, ◌/◌, ◌%◌, ◌==◌, ◌||◌, ℕ, not, false, length, nat_lt, ◌≡◌, sym, ◌∙◌, arith}
use Rattle.std.proofs.lemmas.Bool.Decides.{nat_tests}
use Rattle.sbpf_verify.specs.Places.{max_slots}
use Rattle.sbpf_verify.proofs.Refusals.{verified_from_none}
use Rattle.sbpf_asm.proofs.assembler.verified_image.Goals as goal

few : (n : ℕ) → ((n == 0) || not (n % 8 == 0) || nat_lt max_slots (n / 8)) ≡ false → n ≤ 8 * max_slots
few n h = grind (arith, nat_tests)

pub write_image-requires-clause-slots : goal.write_image-requires-clause-slots
write_image-requires-clause-slots c = few (length c.args.text.now) (verified_from_none c.args.text.now (sym c.first_refusal.ensures ∙ c.in-None.is)).len
