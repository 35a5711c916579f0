use Rattle.std.proofs.Common.{refl}
use Rattle.format_fields.proofs.Adding.{Adds-then, Adds-as}
use Rattle.snapshot_codec.proofs.writing.write_snapshot.Goals as goal

pub returns : goal.returns
returns g c =
    Adds-as
    (Adds-then (Adds-then (Adds-then (Adds-then c.in_ok-append.ensures.ok c.in_ok-append-2.ensures.ok) c.in_ok-write_limits.ensures) c.in_ok-write_marks.ensures) c.in_ok-write_state.ensures)
    (rw (c.to_le_bytes.ensures, c.marks.ensures.marks) refl)
