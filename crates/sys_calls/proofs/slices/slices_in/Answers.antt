use Rattle.std.proofs.Common.{arith, sym}
use Rattle.std.proofs.lemmas.List.FromFn.{map-range_with_len_more}
use Rattle.sys_calls.specs.Slices.{slice_at}
use Rattle.sys_calls.proofs.slices.slices_in.Goals as goal

pub loop-index-preserved : goal.loop-index-preserved
loop-index-preserved c =
    rw (c.in_ok-push.ensures.ok, c.slice_in.ensures, c.loop-index.invariant) (sym (map-range_with_len_more (slice_at c.args.bytes.now) 0 c.loop-index.index c.loop-index.index (omega arith)))
