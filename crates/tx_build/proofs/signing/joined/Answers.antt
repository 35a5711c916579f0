use Rattle.std.proofs.Common.{refl, replicate}
use Rattle.std.proofs.lemmas.Slice.{take-put_mid, drop-put_mid}
use Rattle.tx_build.proofs.Halves.{halves}
use Rattle.tx_build.proofs.signing.joined.Goals as goal

pub returns : goal.returns
returns c = halves c.args.first.now c.args.second.now c.copy_from_slice.new.self c.copy_from_slice-2.new.self
    (replicate 32 0) _ c.copy_from_slice.ensures.after c.copy_from_slice-2.ensures.after
    c.copy_from_slice.ensures.len c.copy_from_slice-2.ensures.len refl (take-put_mid 32 32 _ _)
    (drop-put_mid 32 32 _ _)
