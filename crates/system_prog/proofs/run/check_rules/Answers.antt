use Rattle.std.proofs.Common.{◌≡◌, ap, sym, ◌∙◌, length, subst, List, Bool}
use Rattle.std.specs.Arc.{arc_value}
use Rattle.std.proofs.lemmas.List.{length-map}
use Rattle.sol_base.specs.declared.account.Account.{Account}
use Rattle.sol_base.specs.declared.lock.Meta.{Meta}
use Rattle.sol_base.specs.Accounts.{accounts_of, SameUnlessTouched}
use Rattle.sol_base.specs.Metas.{SameUnlessListed}
use Rattle.system_prog.specs.Written.{flags_of, written}
use Rattle.system_prog.proofs.Keeping.{enough, length_flags, stays, unlisted, untouched}
use Rattle.system_prog.proofs.run.check_rules.Goals as goal

pub touched_by-requires-clause-roles : goal.touched_by-requires-clause-roles
touched_by-requires-clause-roles c = enough c.args.frame.now c.args.instruction.now (accounts_of c.args.before.now) (accounts_of c.args.after.now) c.requires.ended

pub check_listed-requires-clause-lists : goal.check_listed-requires-clause-lists
check_listed-requires-clause-lists c =
    let flags : c.as_slice.result.now ≡ flags_of c.args.frame.now (written c.args.instruction.now) (length c.args.before.now) = c.as_slice.ensures.value ∙ c.in_ok-touched.ensures in
    record {
      marks = ap length flags ∙ length_flags c.args.frame.now (written c.args.instruction.now)
          (length c.args.before.now) ∙ sym
          (length-map c.args.before.now (λ share. let account : Account = arc_value share in account));
      count = (stays c.args.frame.now c.args.instruction.now (accounts_of c.args.before.now) (accounts_of c.args.after.now) c.requires.ended).count;
    }

pub check_listed-requires-clause-unlisted : goal.check_listed-requires-clause-unlisted
check_listed-requires-clause-unlisted c = subst
    (λ (metas : List Meta). SameUnlessListed metas (accounts_of c.args.before.now)
    (accounts_of c.args.after.now)) (sym c.metas.ensures.value)
    (unlisted c.args.frame.now c.args.instruction.now (accounts_of c.args.before.now)
    (accounts_of c.args.after.now) c.requires.ended)

pub check_listed-requires-clause-untouched : goal.check_listed-requires-clause-untouched
check_listed-requires-clause-untouched c =
    let flags : c.as_slice.result.now ≡ flags_of c.args.frame.now (written c.args.instruction.now) (length c.args.before.now) = c.as_slice.ensures.value ∙ c.in_ok-touched.ensures in
    subst (λ (flags : List Bool). SameUnlessTouched flags (accounts_of c.args.before.now)
    (accounts_of c.args.after.now)) (sym flags)
    (untouched c.args.frame.now c.args.instruction.now (accounts_of c.args.before.now)
    (accounts_of c.args.after.now) c.requires.ended (length c.args.before.now))
