use Rattle.std.proofs.Common.{ap, arith, length, refl}
use Rattle.tx_exec.proofs.Fitting.{locks_beside, right_at}
use Rattle.tx_exec.proofs.roles.meta_at.Goals as goal

pub bounds-as_slice-from : goal.bounds-as_slice-from
bounds-as_slice-from c =
    let beside = locks_beside c.args.chosen.now c.requires.chosen in
    let same = ap length c.as_slice.ensures in
    let there = c.requires.there in
    let place = c.from.ensures in
    omega (arith, beside, same, there, place)

pub returns : goal.returns
returns c =
    let beside = locks_beside c.args.chosen.now c.requires.chosen in
    let same = ap length c.as_slice.ensures in
    let there = c.requires.there in
    rw (c.from.ensures, c.is_signer.ensures, right_at c.args.chosen.now c.requires.chosen c.as_slice.result.now c.as_slice.ensures c.args.place _ (omega (arith, beside, same, there))) refl
