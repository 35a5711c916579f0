use Rattle.std.proofs.Common.{refl}
use Rattle.std.proofs.lemmas.Result.{on_ok_weaker}
use Rattle.format_fields.proofs.Adding.{Adds-then, Adds-as}
use Rattle.block_record.proofs.writing.write_lines.Goals as goal

pub returns : goal.returns
returns g c =
    on_ok_weaker c.write_each_line.result (λ last. Adds-as (Adds-then c.in_ok-append.ensures.ok last) (rw (c.to_le_bytes.ensures, c.as_slice-lines.ensures) refl)) c.write_each_line.ensures
