use Rattle.std.proofs.Common.{ℕ, List, ◌++◌, refl, ap, ◌∙◌}
use Rattle.block_record.specs.Record.{bytes_of_lines}
use Rattle.block_record.proofs.writing.lines_bytes.Goals as goal

pub returns : goal.returns
returns c = c.in_ok-write_lines-2.ensures.after c.in_ok-out.out refl ∙ ap (λ (l : List ℕ). l ++ bytes_of_lines c.args.lines.now) c.in_ok-out.ensures
