use Rattle.std.proofs.Common.{refl}
use Rattle.std.proofs.lemmas.Result.{on_ok_weaker}
use Rattle.format_fields.proofs.Adding.{Adds-then, Adds-as}
use Rattle.block_record.proofs.writing.write_sized.Goals as goal

pub returns : goal.returns
returns g c =
    on_ok_weaker c.append-2.result (λ last. Adds-as (Adds-then c.in_ok-append.ensures.ok last) (rw (c.to_le_bytes.ensures, c.len.ensures, c.as_slice.ensures) refl)) c.append-2.ensures.ok
