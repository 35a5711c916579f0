use Rattle.std.proofs.Common.{ℕ, List, ◌++◌, refl, ap, ◌∙◌}
use Rattle.snapshot_codec.specs.Snapshot.{snapshot_bytes}
use Rattle.ledger_store.specs.Seal.{sealed}
use Rattle.ledger_store.proofs.state.state_file.Goals as goal

pub returns : goal.returns
returns c =
    c.in_ok-seal.ensures
    ∙ ap sealed (c.in_ok-out-2.ensures.after c.in_ok-out.out refl ∙ ap (λ (l : List ℕ). l ++ snapshot_bytes c.args.snapshot.now) c.in_ok-out.ensures)
