use Rattle.std.proofs.Common.{ℕ, List, ◌++◌, ap, ◌∙◌}
use Rattle.std.specs.Int.{w32, to_le_bytes}
use Rattle.std.specs.List.{flat_map}
use Rattle.std.specs.FinMap.{len-entries}
use Rattle.std.proofs.lemmas.Result.{on_ok_weaker}
use Rattle.account_store.specs.State.{entries}
use Rattle.snapshot_codec.specs.Snapshot.{account_bytes}
use Rattle.format_fields.proofs.Adding.{Adds-then, Adds-as}
use Rattle.snapshot_codec.proofs.writing.write_state.Goals as goal

pub returns : goal.returns
returns g c =
    on_ok_weaker c.write_each_account.result
    (λ last. Adds-as (Adds-then c.in_ok-append.ensures.ok last)
    (ap (λ (l : List ℕ). l ++ flat_map account_bytes (entries c.args.accounts.now)) (c.to_le_bytes.ensures ∙ ap (to_le_bytes w32) (c.len.ensures.len ∙ len-entries c.args.accounts.now))))
    c.write_each_account.ensures
