-- What is told of a file of what a block changed.
use Rattle.std.specs.Prelude.{◌≡◌, ℕ, List, IfOk}
use Rattle.spec_base.specs.Reading.{Gives}
use Rattle.snapshot_codec.specs.Snapshot.{HasWidths, IsReadable}
use Rattle.ledger_store.specs.declared.told.Told.{Told}
use Rattle.ledger_store.specs.Faults.{NeverFails, is_ledger_memory}
use Rattle.ledger_store.specs.Seal.{is_sealed, unsealed}
use Rattle.ledger_store.specs.Changes.{whole_changes}

-- whatever the hash is that it ends in, and of that hash
pub record IsTold (slot before : ℕ) (file : List ℕ) (told : Told) : Type 0 where
  pub gives : Gives is_ledger_memory (λ changes. changes) told.changes (whole_changes slot before (unsealed file))
  pub readable : IfOk told.changes (λ changes. IsReadable changes.left)
  pub widths : IfOk told.changes (λ changes. HasWidths changes.left)
  pub quiet : NeverFails told.changes
  pub seal : told.sealed ≡ is_sealed file
