use Rattle.sbpf_asm.proofs.Texts.{assembled_items}
use Rattle.sbpf_asm.proofs.laws.assembled_texts_are_lines_of_items.Goals as goal

pub returns : goal.returns
returns c = record { items = assembled_items }
