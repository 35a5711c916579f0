use Rattle.std.proofs.Common.{◌≡◌, ◌<◌, false, true, List, [], length, get_or, sym, ◌∙◌, ap, subst, arith, length-append}
use Rattle.std.proofs.lemmas.List.{take_more, take_all}
use Rattle.sol_base.specs.declared.lock.Lock.{Lock}
use Rattle.bank_law.specs.Job.{has_key}
use Rattle.lock_table.specs.declared.locks.NumberedLock.{NumberedLock}
use Rattle.lock_table.specs.Numbers.{Numbers}
use Rattle.lock_table.proofs.Numbering.{Numbers-known, Numbers-distinct, distinct_once}
use Rattle.lock_table.proofs.sets.set_of_known.Goals as goal

pub known-number-requires : goal.known-number-requires
known-number-requires c =
    let no_lock : Lock = record { key = record { 0 = [] }; write = false } in
    let i = c.loop-lock.lock-index in
    let same = c.as_slice-locks.ensures in
    subst (λ ls. has_key (get_or ls i no_lock).key c.args.table.now ≡ true) (sym same) (c.requires.known i no_lock (subst (λ (ls : List Lock). i < length ls) same c.loop-lock-test.true))

pub loop-lock-preserved : goal.loop-lock-preserved
loop-lock-preserved c =
    let no_lock : Lock = record { key = record { 0 = [] }; write = false } in
    let i = c.loop-lock.lock-index in
    let same = c.as_slice-locks.ensures in
    let there = subst (λ ls. has_key (get_or ls i no_lock).key c.args.table.now ≡ true) (sym same)
    (c.requires.known i no_lock (subst (λ (ls : List Lock). i < length ls) same c.loop-lock-test.true)) in
    let before = c.loop-lock.invariant in
    let added = c.push_with_room.ensures.items in
    let one_lock = take_more c.as_slice-locks.result.now i no_lock c.loop-lock-test.true in
    let numbers = Numbers-known _ _ _ (get_or c.as_slice-locks.result.now i no_lock) _ there c.known-number.ensures before.set in
    record {
      set = rw (one_lock, added) numbers;
      count = ap length added ∙ omega (arith, before.count, length-append {A = NumberedLock});
      capacity = omega (arith, before.capacity, c.push_with_room.ensures.capacity);
    }

pub invariant_of-result : goal.invariant_of-result
invariant_of-result c =
    let all = subst (λ (locks : List Lock). Numbers c.args.table.now locks c.loop-lock.numbered.items)
    (take_all c.loop-lock.lock-index c.as_slice-locks.result.now (omega arith) ∙ c.as_slice-locks.ensures)
    c.loop-lock.invariant.set in
    distinct_once c.loop-lock.numbered.items (Numbers-distinct c.args.table.now c.args.locks.now c.loop-lock.numbered.items all c.requires.distinct)
