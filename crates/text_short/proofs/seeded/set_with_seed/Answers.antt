use Rattle.std.specs.Prelude.{codes}
use Rattle.text_short.specs.SeededCalls.{set_with_seed}
use Rattle.text_short.proofs.MemberNames.{differs}
use Rattle.text_short.proofs.seeded.set_with_seed.Goals as goal

pub returns-in_default : goal.returns-in_default
unfolding set_with_seed
returns-in_default c = rw (
  differs (codes "AllocateWithSeed") c.args.name.now c.in_default.not-AllocateWithSeed,
  differs (codes "AssignWithSeed") c.args.name.now c.in_default.not-AssignWithSeed,
)
    c.no_such_instruction.ensures
