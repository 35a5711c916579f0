use Rattle.std.proofs.Common.{◌≡◌, ◌<◌, ◌∷◌, length}
use Rattle.sbpf_asm.specs.Words.{Text, Cut, is_line_feed, cut}
use Rattle.sbpf_asm.specs.Lines.{lines_of}
use Rattle.sbpf_asm.specs.Words.{text_behind}
use Rattle.sbpf_asm.proofs.Sources.{line_cut, behind_shorter}
use Rattle.sbpf_asm.proofs.source.first_line.Goals as goal

first : (text after : Text) (parts : Cut) → parts ≡ cut is_line_feed text → after ≡ text_behind parts.rest → 0 < length text → lines_of text ≡ parts.front ∷ lines_of after
first text after parts e f h = rw (f, e) (line_cut text h)

shorter : (text after : Text) (parts : Cut) → parts ≡ cut is_line_feed text → after ≡ text_behind parts.rest → 0 < length text → length after < length text
shorter text after parts e f h = rw (f, e) (behind_shorter is_line_feed text h)

pub returns-clause-lines : goal.returns-clause-lines
returns-clause-lines c = first c.args.text.now c.text_behind.result.now _ c.cut_at-parts.ensures c.text_behind.ensures c.requires

pub returns-clause-shorter : goal.returns-clause-shorter
returns-clause-shorter c = shorter c.args.text.now c.text_behind.result.now _ c.cut_at-parts.ensures c.text_behind.ensures c.requires
