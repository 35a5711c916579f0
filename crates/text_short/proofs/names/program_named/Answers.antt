use Rattle.std.proofs.Common.{refl}
use Rattle.std.specs.Prelude.{codes}
use Rattle.text_short.specs.Names.{program_named}
use Rattle.text_short.proofs.MemberNames.{differs}
use Rattle.text_short.proofs.names.program_named.Goals as goal

pub returns-in_default : goal.returns-in_default
unfolding program_named
returns-in_default c = rw (
  differs (codes "system") c.args.text.now c.in_default.not-system,
  differs
      (codes "loader") c.args.text.now c.in_default.not-loader,
  differs (codes "budget") c.args.text.now
      c.in_default.not-budget,
) refl
