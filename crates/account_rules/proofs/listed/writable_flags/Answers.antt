use Rattle.std.proofs.Common.{◌+◌, subst, sym, refl, take, get_or, List, Bool, arith}
use Rattle.sol_base.specs.Metas.{is_listed_writable, no_meta}
use Rattle.account_rules.specs.AccountRules.{AreFlagsOf}
use Rattle.account_rules.proofs.Flags.{no_flag, one_flag, kept_flags, writable_yes, writable_no}
use Rattle.account_rules.proofs.listed.writable_flags.Goals as goal
use Rattle.account_rules.proofs.listed.writable_flags.Goals.{then-meta, else-meta}

pub loop-meta-init : goal.loop-meta-init
loop-meta-init c = no_flag (is_listed_writable (take 0 c.args.metas.now)) (λ place. refl)

pub loop-meta-preserved : goal.loop-meta-preserved
loop-meta-preserved c =
    let new = is_listed_writable (take (c.loop-meta.meta-index + 1) c.args.metas.now) in
    let old = is_listed_writable (take c.loop-meta.meta-index c.args.metas.now) in
    let P : List Bool → Type 0 = λ flags. AreFlagsOf new flags in
    elim c.if-meta.branch [
      | then-meta w ↦ subst P (sym w.flags-is)
          (one_flag old new c.loop-meta.flags (get_or c.args.metas.now c.loop-meta.meta-index no_meta).index
          (omega arith) c.loop-meta.invariant
          (λ place. writable_yes c.args.metas.now c.loop-meta.meta-index no_meta place c.loop-meta-test.true
          w.if-meta.true))
      | else-meta w ↦ subst P (sym w.flags-is)
          (kept_flags old new c.loop-meta.flags c.loop-meta.invariant
          (λ place. writable_no c.args.metas.now c.loop-meta.meta-index no_meta place c.loop-meta-test.true
          w.if-meta.false))
    ]
