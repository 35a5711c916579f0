use Rattle.std.proofs.Common.{refl}
use Rattle.std.proofs.lemmas.Result.{on_ok_weaker}
use Rattle.format_fields.proofs.Adding.{Adds-then, Adds-as}
use Rattle.snapshot_codec.proofs.writing.write_mark.Goals as goal

pub returns : goal.returns
returns g c =
    on_ok_weaker c.write_names.result
    (λ last. Adds-as (Adds-then (Adds-then c.in_ok-append.ensures.ok c.in_ok-append-2.ensures.ok) last) (rw (c.to_le_bytes.ensures, c.as_slice-messages.ensures) refl))
    c.write_names.ensures
