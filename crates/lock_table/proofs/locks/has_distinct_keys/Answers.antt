use Rattle.std.proofs.Common.{List, refl, sym, ◌∙◌, subst, arith}
use Rattle.std.specs.List.{IsDistinct}
use Rattle.std.proofs.lemmas.List.{take_all}
use Rattle.sol_base.specs.declared.lock.Lock.{Lock}
use Rattle.bank_law.specs.Job.{same_key, lock_keys}
use Rattle.lock_table.proofs.Tables.{distinct-none, distinct_more, not_distinct}
use Rattle.lock_table.proofs.locks.has_distinct_keys.Goals as goal

pub loop-i-init : goal.loop-i-init
loop-i-init c = distinct-none

pub loop-i-preserved : goal.loop-i-preserved
loop-i-preserved c =
    distinct_more c.as_slice-locks.result.now c.loop-i.i _ c.loop-i-test.true c.loop-i.invariant (sym c.has_lock.ensures ∙ c.if-has_lock.false)

pub returns-then-has_lock : goal.returns-then-has_lock
returns-then-has_lock c = (
  λ t. absurd (cc),
  λ d. absurd (not_distinct c.as_slice-locks.result.now c.loop-i.i _ c.loop-i-test.true
      (sym c.has_lock.ensures ∙ c.if-has_lock.true)
      (subst (λ (locks : List Lock). IsDistinct same_key (lock_keys locks)) (sym c.as_slice-locks.ensures) d)),
)

pub returns : goal.returns
returns c = (
  λ t. subst (λ (locks : List Lock). IsDistinct same_key (lock_keys locks)) (take_all c.loop-i.i c.as_slice-locks.result.now (omega arith) ∙ c.as_slice-locks.ensures) c.loop-i.invariant,
  λ d. refl,
)
