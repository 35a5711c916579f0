use Rattle.std.proofs.Common.{◌≡◌, ◌∷◌, take}
use Rattle.std.specs.List.{flat_map}
use Rattle.tx_build.specs.Mentions.{payer_mention, instruction_mentions}
use Rattle.tx_build.proofs.mentions.mentions_of.Given as goal

-- the fee payer and the instructions so far
abbrev pub invariant-loop-instruction : goal.invariant-loop-instruction
invariant-loop-instruction l = l.mentions ≡ payer_mention l.draft.payer ∷ flat_map instruction_mentions (take l.instruction-index l.draft.instructions)
