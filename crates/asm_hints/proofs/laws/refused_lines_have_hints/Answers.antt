use Rattle.asm_hints.proofs.Wanted.{line_wanted}
use Rattle.asm_hints.proofs.laws.refused_lines_have_hints.Goals as goal

pub returns : goal.returns
returns c = record { hints = line_wanted }
