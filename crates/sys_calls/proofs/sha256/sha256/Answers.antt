use Rattle.std.proofs.Common.{arith}
use Rattle.std.proofs.lemmas.Result.{err_from_is_err_and}
use Rattle.sys_calls.proofs.Hashes.{slice-refused, hash-refused, hash-written}
use Rattle.sys_calls.proofs.sha256.sha256.Goals as goal

pub returns-in_err-hash : goal.returns-in_err-hash
returns-in_err-hash c =
    let p = err_from_is_err_and c.from_residual-in_err-hash.result c.from_residual-in_err-hash.ensures.1 in
    rw (p.1, p.2)
    (slice-refused c.args.memory.now c.hash_slices.new.memory c.args.env.now c.args.slices c.args.count c.args.result_at c.hash_slices.new.units c.in_ok-slices.slices c.in_err-hash.field-0.0
    (omega arith) c.in_ok-slices.ensures (rw c.as_slice.ensures at c.in_err-hash.ensures.answer) (rw c.as_slice.ensures at c.in_err-hash.ensures.units) c.in_err-hash.ensures.memory)

pub returns-in_err-write : goal.returns-in_err-write
returns-in_err-write c =
    let p = err_from_is_err_and c.from_residual-in_err-write.result c.from_residual-in_err-write.ensures.1 in
    rw (p.1, p.2)
    (hash-refused c.args.memory.now c.write.new.memory c.args.env.now c.args.slices c.args.count
    c.args.result_at c.hash_slices.new.units c.in_ok-slices.slices c.in_ok-hash.hash
    c.in_err-write.field-0.0
    (omega arith) c.in_ok-slices.ensures (rw c.as_slice.ensures at c.in_ok-hash.ensures.answer) (rw c.as_slice.ensures at c.in_ok-hash.ensures.units)
    (rw c.in_ok-hash.ensures.memory at c.in_err-write.ensures.answer)
    (rw c.in_ok-hash.ensures.memory at c.in_err-write.ensures.refused)
    (rw c.in_ok-hash.ensures.memory at c.in_err-write.ensures.lent))

pub returns : goal.returns
returns c =
    hash-written c.args.memory.now c.write.new.memory c.args.env.now c.args.slices c.args.count c.args.result_at c.hash_slices.new.units c.in_ok-slices.slices c.in_ok-hash.hash
    (omega arith) c.in_ok-slices.ensures (rw c.as_slice.ensures at c.in_ok-hash.ensures.answer) (rw c.as_slice.ensures at c.in_ok-hash.ensures.units)
    (rw c.in_ok-hash.ensures.memory at c.in_ok-write.ensures.answer) (rw c.in_ok-hash.ensures.memory at c.in_ok-write.ensures.lent)
