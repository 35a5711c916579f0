use Rattle.std.specs.Prelude.{codes}
use Rattle.text_short.specs.SystemCalls.{system_named}
use Rattle.text_short.proofs.MemberNames.{differs}
use Rattle.text_short.proofs.system.system_named.Goals as goal

pub returns-in_default : goal.returns-in_default
unfolding system_named
returns-in_default c = rw (
  differs (codes "CreateAccount") c.args.name.now c.in_default.not-CreateAccount,
  differs (codes "Assign") c.args.name.now c.in_default.not-Assign,
  differs (codes "Transfer") c.args.name.now
      c.in_default.not-Transfer,
  differs (codes "Allocate") c.args.name.now c.in_default.not-Allocate,
)
    c.paid_with_seed.ensures
