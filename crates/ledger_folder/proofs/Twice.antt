-- Two files that are put in their places, one after the other.
use Rattle.std.proofs.Common.{◌≡◌, ⊎_elim, ℕ, List, [], ◌∷◌}
use Rattle.ledger_folder.specs.declared.name.Name.{Name}
use Rattle.ledger_folder.specs.declared.event.Event.{Event}
use Rattle.ledger_folder.specs.declared.event.Event.TheVariants.{Wrote, Synced, Spoiled, Renamed, RenameFailed, FolderSynced}
use Rattle.ledger_folder.specs.Files.{Disk}
use Rattle.ledger_folder.specs.Crash.{CrashLeaves, Stands}
use Rattle.ledger_folder.specs.Placing.{StoppedPlacing, placing}
use Rattle.ledger_folder.proofs.Moments.{AtEach, Done}
use Rattle.ledger_folder.proofs.Stages.{IsStage, at_start, at_wrote, at_spoiled, at_synced, at_spoiled_sync, at_renamed, at_rename_failed, at_placed}

-- a crash after these events leaves files that have P
abbrev pub Survives : Disk → (Disk → Type 0) → List Event → Type 0
Survives start P events = (crashed : Disk) → CrashLeaves start events crashed → P crashed

-- one file, where each stage leaves files that have P
module _ (start disk : Disk) (old : List Event) (stands : Stands start old disk) (name : Name) (bytes : List ℕ) (P : Disk → Type 0)
    (survives : (events : List Event) → IsStage start disk name bytes events → Survives start P events) where
  abbrev Kept : List Event → Type 0
  Kept = Survives start P

  abbrev wrote : List Event
  wrote = Wrote name bytes ∷ old

  abbrev synced : List Event
  synced = Synced name ∷ wrote

  abbrev renamed : List Event
  renamed = Renamed name ∷ synced

  nothing : Kept old
  nothing = survives old (at_start start disk old stands name bytes)

  each_wrote : AtEach Kept (Wrote name bytes ∷ []) old
  each_wrote = (survives wrote (at_wrote start disk old stands name bytes), nothing)

  each_synced : AtEach Kept (Synced name ∷ Wrote name bytes ∷ []) old
  each_synced = (survives synced (at_synced start disk old stands name bytes), each_wrote)

  each_renamed : AtEach Kept (Renamed name ∷ Synced name ∷ Wrote name bytes ∷ []) old
  each_renamed = (survives renamed (at_renamed start disk old stands name bytes), each_synced)

  -- up to a step that failed
  pub done_stopped : (new : List Event) → StoppedPlacing name bytes old new → Done Kept old new
  done_stopped new stopped =
      ⊎_elim (λ e. record { done = Spoiled name ∷ []; each = (survives (Spoiled name ∷ old) (at_spoiled start disk old stands name bytes), nothing); is = e })
      (λ more. ⊎_elim (λ e. record { done = Spoiled name ∷ Wrote name bytes ∷ []; each = (survives (Spoiled name ∷ wrote) (at_spoiled_sync start disk old stands name bytes), each_wrote); is = e })
      (λ more. ⊎_elim (λ e. record {
        done = RenameFailed name ∷ Synced name ∷ Wrote name bytes
            ∷ [];
        each = (
          survives (RenameFailed name ∷ synced)
              (at_rename_failed start disk old stands name bytes),
          each_synced,
        );
        is = e;
      })
      (λ e. record { done = Renamed name ∷ Synced name ∷ Wrote name bytes ∷ []; each = each_renamed; is = e }) more) more) stopped

  -- and all of them
  pub done_placed : (new : List Event) → new ≡ placing name bytes old → Done Kept old new
  done_placed new e = record {
    done = FolderSynced ∷ Renamed name ∷ Synced name ∷ Wrote name bytes ∷ [];
    each = (survives (FolderSynced ∷ renamed) (at_placed start disk old stands name bytes), each_renamed);
    is = e;
  }
