use Rattle.std.proofs.Common.{[], length, get_or, take, false, sym, ◌∙◌, ap, subst, arith, length-append, List}
use Rattle.std.proofs.lemmas.List.{take_more, take_all}
use Rattle.sol_base.specs.declared.lock.Lock.{Lock}
use Rattle.bank_law.specs.Job.{lock_keys}
use Rattle.lock_table.specs.declared.locks.NumberedLock.{NumberedLock}
use Rattle.lock_table.specs.Numbers.{Numbers, with_key}
use Rattle.lock_table.proofs.Numbering.{with_keys-extends, Numbers-push, Numbers-distinct, with_keys-more, length-with_key-le, distinct_once}
use Rattle.lock_table.proofs.Tables.{take-with_keys}
use Rattle.lock_table.proofs.sets.set_of.Goals as goal

pub truncate-requires : goal.truncate-requires
truncate-requires c =
    let same = ap length (c.in-Err.ensures.err ∙ c.loop-lock.invariant.keys) in
    let long = (with_keys-extends c.args.table.now (lock_keys (take c.loop-lock.lock-index c.as_slice-locks.result.now))).longer in
    omega (arith, same, long, c.len-before.ensures.len)

pub returns-in-Err-clause-err : goal.returns-in-Err-clause-err
returns-in-Err-clause-err c =
    c.truncate.ensures
    ∙ (ap (λ n. take n c.number.new.self) c.len-before.ensures.len
    ∙ (ap (take (length c.args.table.now)) (c.in-Err.ensures.err ∙ c.loop-lock.invariant.keys)
    ∙ take-with_keys c.args.table.now (lock_keys (take c.loop-lock.lock-index c.as_slice-locks.result.now))))

pub loop-lock-preserved : goal.loop-lock-preserved
loop-lock-preserved c =
    let no_lock : Lock = record { key = record { 0 = [] }; write = false } in
    let lock = get_or c.as_slice-locks.result.now c.loop-lock.lock-index no_lock in
    let before = c.loop-lock.invariant in
    let added = c.push_with_room.ensures.items in
    let one_key = with_keys-more c.args.table.now c.as_slice-locks.result.now c.loop-lock.lock-index no_lock c.loop-lock-test.true in
    let one_lock = take_more c.as_slice-locks.result.now c.loop-lock.lock-index no_lock c.loop-lock-test.true in
    let numbers = Numbers-push _ _ _ _ _ _ c.in-Ok.ensures.keys c.in-Ok.ensures.number before.set in
    let most = length-with_key-le c.loop-lock.table lock.key in
    record {
      set = rw (one_lock, added) numbers;
      keys = c.in-Ok.ensures.keys ∙ (ap (λ keys. with_key keys lock.key) before.keys ∙ sym one_key);
      count = ap length added ∙ omega (arith, before.count, length-append {A = NumberedLock});
      capacity = omega (arith, before.capacity, c.push_with_room.ensures.capacity);
      room = omega (arith, before.room, ap length c.in-Ok.ensures.keys, most);
    }

pub invariant_of-result : goal.invariant_of-result
invariant_of-result c =
    let all = subst (λ (locks : List Lock). Numbers c.loop-lock.table locks c.loop-lock.numbered.items)
    (take_all c.loop-lock.lock-index c.as_slice-locks.result.now (omega arith) ∙ c.as_slice-locks.ensures)
    c.loop-lock.invariant.set in
    distinct_once c.loop-lock.numbered.items (Numbers-distinct c.loop-lock.table c.args.locks.now c.loop-lock.numbered.items all c.requires.distinct)
