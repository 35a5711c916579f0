use Rattle.std.proofs.Common.{refl}
use Rattle.std.proofs.lemmas.Result.{on_ok_weaker}
use Rattle.format_fields.proofs.Adding.{Adds-then, Adds-as}
use Rattle.snapshot_codec.proofs.writing.write_limits.Goals as goal

pub returns : goal.returns
returns g c =
    on_ok_weaker c.append-4.result
    (λ last. Adds-as (Adds-then (Adds-then (Adds-then c.in_ok-append.ensures.ok c.in_ok-append-2.ensures.ok)
    c.in_ok-append-3.ensures.ok) last)
    (rw (c.to_le_bytes.ensures, c.to_le_bytes-2.ensures, c.to_le_bytes-3.ensures) refl))
    c.append-4.ensures.ok
