use Rattle.std.proofs.Common.{◌≡◌, false, refl}
use Rattle.std.specs.Prelude.{is_none}
use Rattle.sbpf_machine.proofs.Stepping.{one_stays}
use Rattle.sbpf_machine.proofs.machine.Machine.step.Goals as goal

pub returns-then-not-is_going-clause-ok : goal.returns-then-not-is_going-clause-ok
returns-then-not-is_going-clause-ok c =
    let none : is_none c.args.self.now.stop ≡ false = cc in one_stays c.args.self.now c.args.self.now.stop refl none
