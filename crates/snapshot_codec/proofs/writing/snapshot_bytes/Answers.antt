use Rattle.std.proofs.Common.{ℕ, List, ◌++◌, refl, ap, ◌∙◌}
use Rattle.std.proofs.lemmas.Result.{IfOk-weaker}
use Rattle.snapshot_codec.specs.Snapshot.{snapshot_bytes}
use Rattle.snapshot_codec.proofs.writing.snapshot_bytes.Goals as goal

pub returns : goal.returns
returns c = IfOk-weaker c.write_snapshot-2.result _ _
    (λ bytes adds. adds.after c.in_ok-out.out refl
    ∙ ap (λ (l : List ℕ). l ++ snapshot_bytes c.args.snapshot.now) c.in_ok-out.ensures)
    c.write_snapshot-2.ensures
