use Rattle.bank_core.proofs.Lends.{still_there, lend_step, restored}
use Rattle.std.proofs.Common.{subst, sym, ◌≡◌, take, arith, length, IsSome}
use Rattle.bank_core.specs.Slots.{account_at, put_back_at}
use Rattle.sol_base.specs.Accounts.{accounts_of}
use Rattle.bank_core.proofs.slots.lend.Goals as goal

pub lend_one-requires-clause-there : goal.lend_one-requires-clause-there
lend_one-requires-clause-there c =
    subst IsSome (sym (still_there _ _ _ _ _ _ c.loop-lock.invariant.so_far c.loop-lock-test.true c.requires.distinct)) (c.requires.there _ _ c.loop-lock-test.true)

pub returns-in-Err-clause-same : goal.returns-in-Err-clause-same
returns-in-Err-clause-same c =
    restored c.loop-lock.slots c.put_back.new.slots c.args.locks.now c.loop-lock.lock-index
    c.loop-lock.values.items (account_at c.args.slots.now) c.loop-lock.invariant.so_far
    (let t = c.loop-lock-test.true in omega arith) c.requires.there
    (subst (λ s. (n : _) → account_at c.put_back.new.slots n
    ≡ put_back_at (take (length c.loop-lock.values.items) c.args.locks.now)
    (accounts_of c.loop-lock.values.items) (account_at s) n) c.in-Err.ensures.err c.put_back.ensures.back)

pub loop-lock-preserved : goal.loop-lock-preserved
loop-lock-preserved c = record {
  capacity = let i = c.loop-lock.invariant.capacity in let p = c.push_with_room.ensures.capacity in omega arith;
  so_far = lend_step _ _ _ _ _ _ _ _ _ c.loop-lock.invariant.so_far c.loop-lock-test.true c.requires.distinct c.in-Ok.ensures.ok c.in-Ok.ensures.left c.push_with_room.ensures.items;
}
