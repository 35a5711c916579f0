use Rattle.std.proofs.Common.{◌≡◌, List, ℕ, refl, sym, ap, ap₂, subst, ◌∙◌}
use Rattle.sha2.specs.Hashers.{Holds256}
use Rattle.sol_base.specs.declared.key.Hash32.{Hash32}
use Rattle.snapshot_codec.specs.Snapshot.{IsWritable}
use Rattle.block_record.specs.Record.{WholeRecord, bytes_of_record, whole_record}
use Rattle.block_end.specs.declared.block.Closed.{Closed}
use Rattle.block_end.specs.Closing.{AreEnds}
use Rattle.block_end.specs.Ending.{ran_of}
use Rattle.block_end.proofs.Closings.{after_at_end, end_writable, ends_close, names_ascend, whole_is}
use Rattle.block_end.proofs.RecordPrefixes.{front_written}
use Rattle.block_end.proofs.closing.close_record.Goals as goal

pub snapshot_after-requires : goal.snapshot_after-requires
snapshot_after-requires g c = names_ascend c.args.parts c.args.chain.limits c.args.chain.recent
    (ran_of g.W.Work.job c.args.ended.origin.value c.args.outcomes.now) c.in_ok-end.field-0
    (record {
      end = c.in_ok-end.ensures.end;
      names = c.in_ok-end.ensures.names;
      front =
          c.in_ok-end.ensures.front;
    })

pub returns : goal.returns
returns g c =
    let parts = c.args.parts in
    let ran = ran_of g.W.Work.job c.args.ended.origin.value c.args.outcomes.now in
    let ends = c.in_ok-end.field-0 in
    let are : AreEnds parts ran ends = record { end = c.in_ok-end.ensures.end; names = c.in_ok-end.ensures.names; front = c.in_ok-end.ensures.front } in
    let close = ends_close parts c.args.chain.limits c.args.chain.recent ran ends c.requires.previous are in
    let front = are.front.kept c.requires.kept ∙ front_written parts ran.outcomes c.requires.run.one_each in
    let taken = subst (Holds256 ends.front.hasher) (sym (are.front.kept c.requires.kept)) are.front.taken in
    let written = c.in_ok-hash.ensures ends.front.bytes refl taken in
    let as_written : WholeRecord = record { bytes = c.end_record.new.out; hash = c.in_ok-hash.hash } in
    let made : as_written ≡ whole_record ends.front.bytes ends.end.burned ends.end.collected ends.end.state =
    ap₂ (λ (bytes : List ℕ) (hash : Hash32). let w : WholeRecord = record { bytes = bytes; hash = hash } in w) written.0 written.1 in
    let whole = whole_is parts c.args.chain.limits c.args.chain.recent ran ends ends.front.bytes as_written front made in
    let after = c.in_ok-after.ensures ∙ ap (λ (w : WholeRecord). after_at_end parts c.args.chain.limits c.args.chain.recent ran ends (record { hash = w.hash; messages = ends.names })) whole in
    record {
      record_is = ap (λ (w : WholeRecord). w.bytes) whole ∙ ap (λ (e : Closed). bytes_of_record e.block) close;
      after = after ∙ ap (λ (e : Closed). e.after) close;
      writable = subst IsWritable (sym after) (end_writable parts c.args.chain.limits c.args.chain.recent ran ends c.requires.limits c.requires.messages c.requires.run are);
    }
