use Rattle.std.proofs.Common.{◌≡◌, ℕ, ◌+◌, [], false, get_or, take, sym, ap, subst, ◌∙◌, unwrap_or, arith, rules}
use Rattle.std.specs.Prelude.{if◌then◌else◌}
use Rattle.std.specs.BTreeMap.{BTreeMap, get}
use Rattle.std.specs.BTreeMap.Entry.{map_with_value}
use Rattle.std.proofs.lemmas.List.{get_or_default}
use Rattle.sol_base.specs.declared.key.Key.{Key}
use Rattle.sol_base.specs.declared.lock.Lock.{Lock}
use Rattle.sol_base.specs.Keys.{key_cmp}
use Rattle.admission.specs.Admission.{locks_write}
use Rattle.admission.specs.Sums.{sum_at}
use Rattle.admission.proofs.SumLaws.{first_sum, read_adds_none, write_adds}
use Rattle.admission.proofs.units.add_units.Goals as goal
use Rattle.admission.proofs.units.add_units.Goals.{then-lock+in_ok-sums, else-lock}

-- a lock to read at where there is none
abbrev no_lock : Lock
no_lock = record { key = record { 0 = [] }; write = false }

pub overflow_add-sums : goal.overflow_add-sums
overflow_add-sums c =
    let locks = c.args.locks.now in
    let i = c.loop-lock.lock-index in
    let lock : Lock = get_or locks i no_lock in
    let e = first_sum locks i lock c.loop-lock-test.true
    (get_or_default locks i no_lock lock c.loop-lock-test.true) c.args.limit (sum_at c.args.sums.now)
    (sum_at c.loop-lock.sums) c.requires.apart c.loop-lock.invariant in
    let f = c.requires.fits lock.key in
    let is : c.or_insert.result.now ≡ sum_at c.loop-lock.sums lock.key = c.or_insert.ensures.value ∙ ap (λ o. unwrap_or o 0) c.in_ok-sums.ensures.value in
    omega (arith, e, f, is)

pub loop-lock-preserved : goal.loop-lock-preserved
loop-lock-preserved c =
    let locks = c.args.locks.now in
    let i = c.loop-lock.lock-index in
    let lock : Lock = get_or locks i no_lock in
    let is = get_or_default locks i no_lock lock c.loop-lock-test.true in
    elim c.if-lock.branch [
      | then-lock+in_ok-sums w ↦ let sum : ℕ = w.or_insert.result.now in
          let last : c.if-lock.sums ≡ map_with_value w.in_ok-sums.field-0 (sum + c.args.limit) = w.sums-is ∙ search rules in
          write_adds locks i lock c.loop-lock-test.true is c.args.limit sum (sum_at c.args.sums.now) c.loop-lock.sums c.if-lock.sums w.if-lock.true c.requires.apart
          (w.or_insert.ensures.value ∙ ap (λ o. unwrap_or o 0) w.in_ok-sums.ensures.value)
          (λ key. ap (λ (sums : BTreeMap Key ℕ). get key_cmp sums key) last
          ∙ (w.in_ok-sums.ensures.update.0 (sum + c.args.limit)).0 key) c.loop-lock.invariant
      | else-lock w ↦ subst (λ (sums : BTreeMap Key ℕ). (key : Key) → sum_at sums key ≡ sum_at c.args.sums.now key + (if locks_write (take (i + 1) locks) key then c.args.limit else 0)) (sym w.sums-is)
          (read_adds_none locks i lock c.loop-lock-test.true is c.args.limit (sum_at c.args.sums.now) (sum_at c.loop-lock.sums) w.if-lock.false c.loop-lock.invariant)
    ]
