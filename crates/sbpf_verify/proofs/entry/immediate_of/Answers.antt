use Rattle.std.proofs.Common.{Some, ap, ◌∙◌, arith}
use Rattle.sbpf_verify.proofs.Starts.{second_half}
use Rattle.sbpf_verify.proofs.entry.immediate_of.Goals as goal

pub slot_at-requires : goal.slot_at-requires
slot_at-requires c = omega (arith, (second_half c.args.text.now c.args.place c.requires.verified (c.requires.there ∙ ap (λ k. Some k) c.in-LoadWide.is)).0)
