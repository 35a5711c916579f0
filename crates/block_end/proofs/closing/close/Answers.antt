use Rattle.std.proofs.Common.{sym, ap, subst, ◌∙◌}
use Rattle.block_end.specs.declared.block.Closed.{Closed}
use Rattle.snapshot_codec.specs.Snapshot.{IsWritable}
use Rattle.block_end.specs.Closing.{AreEnds}
use Rattle.block_end.specs.Ending.{ran_of}
use Rattle.block_end.proofs.Closings.{closes_as, end_writable, ends_close, names_ascend}
use Rattle.block_end.proofs.closing.close.Goals as goal

pub snapshot_after-requires : goal.snapshot_after-requires
snapshot_after-requires g c = names_ascend c.args.parts c.args.chain.limits c.args.chain.recent
    (ran_of g.W.Work.job c.args.ended.origin.value c.args.outcomes) c.in_ok-end.field-0
    (record {
      end = c.in_ok-end.ensures.end;
      names = c.in_ok-end.ensures.names;
      front =
          c.in_ok-end.ensures.front;
    })

pub returns : goal.returns
returns g c =
    let parts = c.args.parts in
    let ran = ran_of g.W.Work.job c.args.ended.origin.value c.args.outcomes in
    let ends = c.in_ok-end.field-0 in
    let are : AreEnds parts ran ends = record { end = c.in_ok-end.ensures.end; names = c.in_ok-end.ensures.names; front = c.in_ok-end.ensures.front } in
    let same = closes_as parts c.args.chain.limits c.args.chain.recent ran ends c.in_ok-unsealed.unsealed.block
    c.seal-block.result c.in_ok-after.after c.in_ok-unsealed.ensures.block c.seal-block.ensures.exact
    c.in_ok-after.ensures in
    record {
      exact = same ∙ ends_close parts c.args.chain.limits c.args.chain.recent ran ends c.requires.previous are;
      counted = c.seal-block.ensures.counted;
      writable =
          subst IsWritable (sym (ap (λ (e : Closed). e.after) same))
          (end_writable parts c.args.chain.limits c.args.chain.recent ran ends c.requires.limits c.requires.messages c.requires.run are);
    }
