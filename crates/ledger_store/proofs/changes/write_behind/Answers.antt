use Rattle.std.proofs.Common.{ℕ, List, ◌++◌, ap}
use Rattle.std.proofs.lemmas.Result.{on_ok_weaker}
use Rattle.format_fields.proofs.Adding.{Adds-then, Adds-as}
use Rattle.ledger_store.specs.Changes.{gone_bytes}
use Rattle.ledger_store.proofs.changes.write_behind.Goals as goal

pub returns : goal.returns
returns g c =
    on_ok_weaker c.write_gone.result
    (λ last. Adds-as (Adds-then c.in_ok-append.ensures.ok last) (ap (λ (l : List ℕ). l ++ gone_bytes c.args.gone.now) c.to_le_bytes.ensures))
    c.write_gone.ensures
