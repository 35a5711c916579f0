use Rattle.std.proofs.Common.{◌≡◌, ◌+◌, ◌-◌, ◌++◌, ◌∷◌, ◌<◌, ◌≤◌, ◌∙◌, ℕ, [], List, length, min, take, drop, sym, ap, subst, arith}
use Rattle.std.specs.Prelude.{◌^◌, if◌then◌else◌}
use Rattle.std.proofs.lemmas.List.{take_at}
use Rattle.sol_base.specs.declared.key.Key.{Key}
use Rattle.std.specs.List.{IsDistinct}
use Rattle.sol_base.specs.declared.lock.Lock.{Lock}
use Rattle.sol_base.specs.Keys.{same_key}
use Rattle.sol_base.specs.Locks.{lock_keys}
use Rattle.admission.specs.declared.chosen.Chosen.{Chosen}
use Rattle.admission.specs.Admission.{locks_write, units_of}
use Rattle.admission.specs.Sums.{AreSums, HasSums, bucket_sum}
use Rattle.admission.proofs.SumLaws.{room_in, sums_more}
use Rattle.admission.proofs.units.Order.push.Goals as goal

pub sums_with-requires-clause-fits : goal.sums_with-requires-clause-fits
sums_with-requires-clause-fits c =
    let same : units_of c.self.inside.chosen.items ≡ units_of c.args.self.now = ap (λ (order : List Chosen). units_of order) c.self.view_is in
    let limit = ap (λ (one : Chosen). one.budget.limit) c.chosen-chosen.ensures in
    room_in c.self.inside.chosen.items c.take.result c.chosen-chosen.result.now.budget.limit
    (subst (AreSums c.self.inside.chosen.items) (sym c.take.ensures.value) c.self.invariant.each)
    (omega (arith, same, limit, c.requires.fits))

pub invariant_of-self-2 : goal.invariant_of-self-2
invariant_of-self-2 c =
    let one : Chosen = c.chosen-chosen.result.now in
    let order : List Chosen = c.self.inside.chosen.items in
    let old : List ℕ = c.self.inside.buckets.items in
    let new : List ℕ = c.add_to_buckets.new.buckets in
    let sums = c.in_ok-self-inside.field-0 in
    let same : units_of c.self.inside.chosen.items ≡ units_of c.args.self.now = ap (λ (order : List Chosen). units_of order) c.self.view_is in
    let limit : one.budget.limit ≡ c.args.one.budget.limit = ap (λ (one : Chosen). one.budget.limit) c.chosen-chosen.ensures in
    let room : c.self.inside.units + one.budget.limit < 2 ^ 64 = omega (arith, same, limit, c.self.invariant.all, c.requires.fits) in
    let apart : IsDistinct same_key (lock_keys one.locks) = subst (λ (one : Chosen). IsDistinct same_key (lock_keys one.locks)) (sym c.chosen-chosen.ensures) c.requires.apart in
    let value = ap length c.as_mut_slice.ensures.value in
    let kept = c.add_to_buckets.auto.buckets in
    let count : length new ≡ length old = omega (arith, kept, value) in
    let full : length new ≡ c.self.inside.buckets.len = omega (arith, kept, c.as_mut_slice.ensures.len) in
    let grown : (key : Key) → min (2 ^ 64 - 1) (bucket_sum old key + (if locks_write one.locks key then one.budget.limit else 0)) ≤ bucket_sum new key =
    subst (λ n. (key : Key) → min (2 ^ 64 - 1) (bucket_sum old key + (if locks_write one.locks key then n else 0)) ≤ bucket_sum new key) c.from-limit.ensures
    (subst (λ (ls : List Lock). (key : Key) → min (2 ^ 64 - 1) (bucket_sum old key + (if locks_write ls key then c.from-limit.result else 0)) ≤ bucket_sum new key) c.as_slice.ensures
    (subst (λ (bs : List ℕ). (key : Key)
    → min (2 ^ 64 - 1) (bucket_sum bs key +
    (if locks_write c.as_slice.result.now key then c.from-limit.result else 0)) ≤ bucket_sum new key)
    c.as_mut_slice.ensures.value c.add_to_buckets.ensures)) in
    let each = c.in_ok-self-inside.ensures order (subst (AreSums order) (sym c.take.ensures.value) c.self.invariant.each) in
    let has : HasSums (order ++ one ∷ []) (c.self.inside.units + one.budget.limit) new sums =
    sums_more order c.self.inside.units old new c.self.inside.key_units sums one c.self.invariant room apart count grown each in
    let back : take c.self.inside.buckets.len (new ++ drop (length new) old) ≡ new = take_at new (drop (length new) old) c.self.inside.buckets.len full in
    subst (λ (bs : List ℕ). HasSums c.push_reserved.new.self.items (c.self.inside.units + c.from-limit.result) bs sums) (sym back)
    (subst (λ (items : List Chosen). HasSums items (c.self.inside.units + c.from-limit.result) new sums)
    (sym (c.push_reserved.ensures.items
    ∙ ap (λ (order : List Chosen). order ++ c.args.one ∷ []) c.in_ok-reserve.ensures.items
    ∙ ap (λ (last : Chosen). order ++ last ∷ []) (sym c.chosen-chosen.ensures)))
    (subst (λ n. HasSums (order ++ one ∷ []) (c.self.inside.units + n) new sums) (sym c.from-limit.ensures) has))
