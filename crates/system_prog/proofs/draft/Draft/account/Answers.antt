use Rattle.std.proofs.Common.{◌≡◌, rules, arith}
use Rattle.std.proofs.lemmas.Grind.{common_steps}
use Rattle.system_prog.specs.SystemProgram.{account_at}
use Rattle.system_prog.proofs.Drafts.{part_of}
use Rattle.system_prog.proofs.draft.Draft.account.Goals as goal

pub returns-clause-part : goal.returns-clause-part
returns-clause-part c =
    let is : c.deref.result.now ≡ account_at c.args.self.now c.args.place = first_of (search rules, grind (arith, common_steps)) in
    part_of c.args.self.now c.args.place c.deref.result.now c.requires is
