use Rattle.std.proofs.Common.{sym, ◌∙◌}
use Rattle.sbpf_verify.proofs.Refusals.{verified_from_none}
use Rattle.sbpf_asm.proofs.lister.list.Goals as goal

pub append_instructions-requires : goal.append_instructions-requires
append_instructions-requires c = verified_from_none c.in-Some.parts.text.now (sym c.first_refusal.ensures ∙ c.in_default-first_refusal.is)
