-- A file that is put in its place so that it outlasts a crash: it is written beside its place, synced
-- and moved there, and the folder is synced. The newest event is first.
use Rattle.std.specs.Prelude.{◌≡◌, ◌⊎◌, ℕ, List, ◌∷◌}
use Rattle.ledger_folder.specs.declared.name.Name.{Name}
use Rattle.ledger_folder.specs.declared.event.Event.{Event}
use Rattle.ledger_folder.specs.declared.event.Event.TheVariants.{Wrote, Synced, Spoiled, Renamed, RenameFailed, FolderSynced}

abbrev pub placing : Name → List ℕ → List Event → List Event
placing name bytes events =
    FolderSynced ∷ Renamed name ∷ Synced name ∷ Wrote name bytes ∷ events

-- that ended at a step that failed
abbrev pub StoppedPlacing : Name → List ℕ → List Event → List Event → Type 0
StoppedPlacing name bytes old new =
    (new ≡ Spoiled name ∷ old)
    ⊎ (new ≡ Spoiled name ∷ Wrote name bytes ∷ old)
    ⊎ (new ≡ RenameFailed name ∷ Synced name ∷ Wrote name bytes ∷ old)
    ⊎ (new ≡ Renamed name ∷ Synced name ∷ Wrote name bytes ∷ old)
