use Rattle.std.proofs.Common.{◌≡◌, ℕ, ◌<◌, ◌≤◌, ◌+◌, ◌-◌, ◌∙◌, List, [], false, min, length, take, get_or, set, sym, ap, subst, arith}
use Rattle.std.specs.Prelude.{◌^◌, slice_index, if◌then◌else◌}
use Rattle.std.proofs.lemmas.List.{get_or_default}
use Rattle.sol_base.specs.declared.key.Key.{Key}
use Rattle.sol_base.specs.declared.lock.Lock.{Lock}
use Rattle.admission.specs.Admission.{locks_write}
use Rattle.admission.specs.Sums.{bucket_of, bucket_sum}
use Rattle.admission.proofs.SumLaws.{read_grows_none, write_grows}
use Rattle.admission.proofs.units.add_to_buckets.Goals as goal
use Rattle.admission.proofs.units.add_to_buckets.Goals.{then-lock, else-lock}

-- a lock to read at where there is none
abbrev no_lock : Lock
no_lock = record { key = record { 0 = [] }; write = false }

pub loop-lock-preserved : goal.loop-lock-preserved
loop-lock-preserved c =
    let locks = c.args.locks.now in
    let i = c.loop-lock.lock-index in
    let lock : Lock = get_or locks i no_lock in
    let is = get_or_default locks i no_lock lock c.loop-lock-test.true in
    let filled : 0 < length c.loop-lock.buckets = omega (arith, c.requires.some, c.loop-lock.auto.buckets) in
    elim c.if-lock.branch [
      | then-lock w ↦ let at : w.bucket_of-bucket.result ≡ bucket_of (length c.loop-lock.buckets) lock.key = w.bucket_of-bucket.ensures.exact in
          let summed : w.saturating_add.result ≡ min (slice_index c.loop-lock.buckets (bucket_of (length c.loop-lock.buckets) lock.key) + c.args.limit) (2 ^ 64 - 1) =
          w.saturating_add.ensures ∙ ap (λ n. min (get_or c.loop-lock.buckets n 0 + c.args.limit) (2 ^ 64 - 1)) at in
          write_grows locks i lock c.loop-lock-test.true is c.args.limit w.saturating_add.result
          (bucket_sum c.args.buckets.now) c.loop-lock.buckets c.if-lock.buckets w.if-lock.true filled
          (omega (arith, summed))
          (w.buckets-is ∙ ap (λ n. set c.loop-lock.buckets n w.saturating_add.result) at) c.loop-lock.invariant
      | else-lock w ↦ subst (λ (bs : List ℕ). (key : Key)
          → min (2 ^ 64 - 1) (bucket_sum c.args.buckets.now key +
          (if locks_write (take (i + 1) locks) key then c.args.limit else 0)) ≤ bucket_sum bs key)
          (sym w.buckets-is)
          (read_grows_none locks i lock c.loop-lock-test.true is c.args.limit (bucket_sum c.args.buckets.now) (bucket_sum c.loop-lock.buckets) w.if-lock.false c.loop-lock.invariant)
    ]
