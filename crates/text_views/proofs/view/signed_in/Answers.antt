use Rattle.std.proofs.Common.{All, IsUtf8, arith}
use Rattle.std.proofs.lemmas.List.Elements.{All-from_recursion}
use Rattle.block_record.specs.declared.block.Entry.{Entry}
use Rattle.bank_show.proofs.Values.{lines_at}
use Rattle.text_views.proofs.view.signed_in.Goals as goal

pub entry_text-requires : goal.entry_text-requires
entry_text-requires c =
    lines_at c.loop-others.others.now 0 c.entry-item.result (omega (arith, c.in-len1-up.len_at_least))
    (All-from_recursion (λ (entry : Entry). All IsUtf8 entry.lines) c.loop-others.others.now
    c.loop-others.invariant.1) c.entry-item.is
