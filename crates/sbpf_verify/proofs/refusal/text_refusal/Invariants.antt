use Rattle.std.proofs.Common.{◌≡◌, ◌-◌}
use Rattle.sbpf_verify.specs.Places.{slot_count}
use Rattle.sbpf_verify.specs.Verified.{first_applying}
use Rattle.sbpf_verify.proofs.Refusals.{rest}
use Rattle.sbpf_verify.proofs.refusal.text_refusal.Given as goal

abbrev pub invariant-loop-at : goal.invariant-loop-at
invariant-loop-at l = first_applying (rest l.text 0 (slot_count l.text)) ≡ first_applying (rest l.text l.at (slot_count l.text - l.at))
