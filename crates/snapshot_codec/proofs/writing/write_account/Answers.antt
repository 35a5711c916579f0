use Rattle.std.proofs.Common.{refl}
use Rattle.std.proofs.lemmas.Result.{on_ok_weaker}
use Rattle.format_fields.proofs.Adding.{Adds-then, Adds-as}
use Rattle.snapshot_codec.proofs.AccountLaws.{flag-same}
use Rattle.snapshot_codec.proofs.writing.write_account.Goals as goal

pub returns : goal.returns
returns g c =
    on_ok_weaker c.append-6.result
    (λ last. Adds-as (Adds-then (Adds-then
    (Adds-then (Adds-then (Adds-then c.in_ok-append.ensures.ok c.in_ok-append-2.ensures.ok)
    c.in_ok-append-3.ensures.ok) c.in_ok-append-4.ensures.ok) c.in_ok-append-5.ensures.ok) last)
    (rw (
      c.to_le_bytes.ensures,
      c.from.ensures,
      c.to_le_bytes-2.ensures,
      c.len.ensures,
      c.as_slice.ensures,
      flag-same c.args.account.now.executable,
    ) refl))
    c.append-6.ensures.ok
