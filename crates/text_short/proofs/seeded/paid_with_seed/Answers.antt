use Rattle.std.specs.Prelude.{codes}
use Rattle.text_short.specs.SeededCalls.{paid_with_seed}
use Rattle.text_short.proofs.MemberNames.{differs}
use Rattle.text_short.proofs.seeded.paid_with_seed.Goals as goal

pub returns-in_default : goal.returns-in_default
unfolding paid_with_seed
returns-in_default c = rw (
  differs (codes "CreateAccountWithSeed") c.args.name.now
      c.in_default.not-CreateAccountWithSeed,
  differs (codes "TransferWithSeed") c.args.name.now
      c.in_default.not-TransferWithSeed,
) c.set_with_seed.ensures
