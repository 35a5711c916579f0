-- A file that is put in its place: what a crash leaves at each step.
use Rattle.std.proofs.Common.{◌≡◌, ◌⊎◌, inl, inr, ⊎_elim, ℕ, List, [], ◌∷◌, true, false, if◌then◌else◌, Option, Some, option_map, refl, sym, ◌∙◌, ap, subst}
use Rattle.std.proofs.lemmas.Bool.{cases_Bool, cond-true, cond-false}
use Rattle.ledger_folder.specs.declared.name.Name.{Name}
use Rattle.ledger_folder.specs.declared.event.Event.{Event}
use Rattle.ledger_folder.specs.declared.event.Event.TheVariants.{Wrote, Synced, Spoiled, Renamed, RenameFailed, FolderSynced}
use Rattle.ledger_folder.specs.Names.{same_name}
use Rattle.ledger_folder.specs.Files.{Disk, Known, written, synced, moved, placed}
use Rattle.ledger_folder.specs.Crash.{left, Fits, Stands}
use Rattle.ledger_folder.proofs.Slots.{same_name-self, same_name-true}

-- the files with one more
abbrev pub with_file : Disk → Name → List ℕ → Disk
with_file disk name bytes = λ n. if same_name name n then Some bytes else disk n

-- one file alone may be otherwise, and then it has the bytes
pub record IsStage (start disk : Disk) (name : Name) (bytes : List ℕ) (events : List Event) : Type 0 where
  pub others : (n : Name) → same_name name n ≡ false → left start events n ≡ Some (disk n) ∷ []
  pub file : (found : Option (List ℕ)) → Fits (left start events name) found → (found ≡ disk name) ⊎ (found ≡ Some bytes)

pub one_fits : (known found : Option (List ℕ)) → Fits (Some known ∷ []) found → found ≡ known
one_fits known found fits = ⊎_elim (λ e. e) (λ none. absurd none) fits

two_fit : (new known found : Option (List ℕ)) → Fits (Some new ∷ Some known ∷ []) found → (found ≡ known) ⊎ (found ≡ new)
two_fit new known found fits = ⊎_elim (λ e. inr e) (λ more. inl (one_fits known found more)) fits

module _ (start disk : Disk) (old : List Event) (stands : Stands start old disk) (name : Name) (bytes : List ℕ) where
  self : same_name name name ≡ true
  self = same_name-self name

  -- what is written beside the file, and synced there
  abbrev wrote : List Event
  wrote = Wrote name bytes ∷ old

  abbrev synced_beside : List Event
  synced_beside = Synced name ∷ wrote

  abbrev renamed : List Event
  renamed = Renamed name ∷ synced_beside

  -- what changes nothing but what stands beside the files
  quiet : (events : List Event) → ((n : Name) → left start events n ≡ left start old n) → IsStage start disk name bytes events
  quiet events same = record {
    others = λ n apart. same n ∙ stands.lasts n;
    file = λ found fits. inl (one_fits (disk name) found (subst (λ (l : List Known). Fits l found) (same name ∙ stands.lasts name) fits));
  }

  pub at_start : IsStage start disk name bytes old
  at_start = quiet old (λ n. refl)

  pub at_wrote : IsStage start disk name bytes wrote
  at_wrote = quiet wrote (λ n. refl)

  pub at_spoiled : IsStage start disk name bytes (Spoiled name ∷ old)
  at_spoiled = quiet (Spoiled name ∷ old) (λ n. refl)

  pub at_synced : IsStage start disk name bytes synced_beside
  at_synced = quiet synced_beside (λ n. refl)

  pub at_spoiled_sync : IsStage start disk name bytes (Spoiled name ∷ wrote)
  at_spoiled_sync = quiet (Spoiled name ∷ wrote) (λ n. refl)

  -- what is sure of the file that is moved
  moved_whole : moved synced_beside name ≡ Some (Some bytes)
  moved_whole = ap (option_map (λ (b : List ℕ). Some b))
      (cond-true (same_name name name) (written wrote name) (synced wrote name) self
      ∙ cond-true (same_name name name) (Some bytes) (written old name) self)

  -- a move that is not yet sure
  moving : (events : List Event)
      → ((n : Name) → left start events n
      ≡ (if same_name name n then moved synced_beside n
      ∷ left start synced_beside n else left start synced_beside n)) → IsStage start disk name bytes events
  moving events is = record {
    others = λ n apart. is n ∙ cond-false (same_name name n) (moved synced_beside n ∷ left start old n) (left start old n) apart ∙ stands.lasts n;
    file = λ found fits.
        two_fit (Some bytes) (disk name) found
        (subst (λ (l : List Known). Fits l found) (is name ∙ cond-true (same_name name name) (moved synced_beside name ∷ left start old name) (left start old name) self ∙ two) fits);
  }
    where
      two : moved synced_beside name ∷ left start old name ≡ Some (Some bytes) ∷ Some (disk name) ∷ []
      two = ap (λ (k : Known). k ∷ left start old name) moved_whole ∙ ap (λ (l : List Known). Some (Some bytes) ∷ l) (stands.lasts name)

  pub at_renamed : IsStage start disk name bytes renamed
  at_renamed = moving renamed (λ n. refl)

  pub at_rename_failed : IsStage start disk name bytes (RenameFailed name ∷ synced_beside)
  at_rename_failed = moving (RenameFailed name ∷ synced_beside) (λ n. refl)

  -- what stands in the places
  placed_now : (n : Name) → placed start renamed n ≡ Some (with_file disk name bytes n)
  placed_now n =
      ⊎_elim (λ here. there n here) (λ apart. cond-false (same_name name n) (moved synced_beside n) (placed start old n) apart ∙ stands.holds n
      ∙ ap (λ (f : Option (List ℕ)). Some f) (sym (cond-false (same_name name n) (Some bytes) (disk n) apart))) (cases_Bool (same_name name n))
    where
      there : (n : Name) → same_name name n ≡ true → placed start renamed n ≡ Some (with_file disk name bytes n)
      there n here = subst (λ (m : Name). placed start renamed m ≡ Some (with_file disk name bytes m)) (same_name-true name n here)
          (cond-true (same_name name name) (moved synced_beside name) (placed start old name) self ∙ moved_whole
          ∙ ap (λ (f : Option (List ℕ)). Some f) (sym (cond-true (same_name name name) (Some bytes) (disk name) self)))

  -- once the folder is synced, the file is there and lasts
  pub stands_then : Stands start (FolderSynced ∷ renamed) (with_file disk name bytes)
  stands_then = record {
    holds = placed_now;
    lasts = λ n. ap (λ (k : Known). k ∷ []) (placed_now n);
  }

  pub at_placed : IsStage start disk name bytes (FolderSynced ∷ renamed)
  at_placed = record {
    others = λ n apart. stands_then.lasts n ∙ ap (λ (f : Option (List ℕ)). Some f ∷ []) (cond-false (same_name name n) (Some bytes) (disk n) apart);
    file = λ found fits. inr (one_fits (Some bytes) found (subst (λ (l : List Known). Fits l found) (stands_then.lasts name
        ∙ ap (λ (f : Option (List ℕ)). Some f ∷ []) (cond-true (same_name name name) (Some bytes) (disk name) self)) fits));
  }
