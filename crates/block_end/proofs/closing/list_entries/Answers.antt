use Rattle.std.proofs.Common.{List, ap, sym, subst, ◌∙◌}
use Rattle.sha2.specs.Hashers.{Holds256}
use Rattle.block_record.specs.declared.block.Block.{Block}
use Rattle.block_record.specs.declared.block.Entry.{Entry}
use Rattle.block_record.specs.Record.{front_bytes}
use Rattle.block_end.specs.Blocks.{no_hash}
use Rattle.block_end.proofs.Closings.{block_counted}
use Rattle.block_end.proofs.RecordPrefixes.{front_written}
use Rattle.block_end.proofs.closing.list_entries.Goals as goal

pub returns : goal.returns
returns c =
    let parts = c.args.parts in
    let is =
    ap (λ (es : List Entry). let block : Block =
    record {
      slot = parts.head.now.slot;
      collector = parts.head.now.collector;
      previous = parts.previous;
      entries = es;
      burned = 0;
      collected = 0;
      state = no_hash;
      hash = no_hash;
    } in block)
    c.in_ok-entries_of.ensures.each in
    record {
      block = is;
      counted = block_counted parts.wires.now parts.order.now c.args.outcomes c.requires.of c.requires.small _ c.in_ok-entries_of.ensures.each;
      hasher = subst (Holds256 c.args.front.hasher) (front_written parts c.args.outcomes c.requires.one_each ∙ sym (ap front_bytes is)) c.requires.front.taken;
    }
