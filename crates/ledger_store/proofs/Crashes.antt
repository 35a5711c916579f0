-- What a crash leaves while a block is added.
use Rattle.std.proofs.Common.{◌≡◌, inl, inr, ⊎_elim, ℕ, List, Bool, true, false, ◌||◌, Some, refl, ◌∙◌, subst}
use Rattle.std.proofs.lemmas.Bool.{or_parts, cond-true, cond-false}
use Rattle.snapshot_codec.specs.declared.snapshot.Snapshot.{Snapshot}
use Rattle.block_record.specs.declared.block.Block.{Block as BlockValue}
use Rattle.ledger_folder.specs.declared.name.Name.{Name}
use Rattle.ledger_folder.specs.declared.name.Name.TheVariants.{State, Changes, Block}
use Rattle.ledger_folder.specs.declared.event.Event.{Event}
use Rattle.ledger_folder.specs.Names.{same_name, is_of_slot}
use Rattle.ledger_folder.specs.Files.{Disk, Known}
use Rattle.ledger_folder.specs.Crash.{Fits, CrashLeaves, Stands}
use Rattle.ledger_folder.specs.Placing.{StoppedPlacing, placing}
use Rattle.ledger_folder.proofs.Slots.{same_name-self}
use Rattle.ledger_folder.proofs.Moments.{Done, Done-then}
use Rattle.ledger_folder.proofs.Stages.{with_file, IsStage, stands_then, one_fits}
use Rattle.ledger_folder.proofs.Twice.{Survives, done_placed, done_stopped}
use Rattle.ledger_store.specs.declared.opening.Ledger.{Ledger}
use Rattle.ledger_store.specs.Seal.{sealed}
use Rattle.ledger_store.specs.Blocks.{kept_bytes}
use Rattle.ledger_store.specs.Reading.{Opens}
use Rattle.ledger_store.specs.Adding.{state_name, with_block, IsAfter, IsBeforeOrAfter}
use Rattle.ledger_store.proofs.Same.{Agree, Later, still_opens}

-- the file of a state is none of another slot, and no block
state_apart : (full : Bool) (slot : ℕ) (name : Name) → is_of_slot slot name ≡ false → same_name (state_name full slot) name ≡ false
state_apart true slot name h =
    (or_parts (same_name (State slot) name) (same_name (Changes slot) name)
    (or_parts (same_name (State slot) name || same_name (Changes slot) name) (same_name (Block slot) name)
    h).0).0
state_apart false slot name h =
    (or_parts (same_name (State slot) name) (same_name (Changes slot) name)
    (or_parts (same_name (State slot) name || same_name (Changes slot) name) (same_name (Block slot) name)
    h).0).1

block_apart : (slot : ℕ) (name : Name) → is_of_slot slot name ≡ false → same_name (Block slot) name ≡ false
block_apart slot name h = (or_parts (same_name (State slot) name || same_name (Changes slot) name) (same_name (Block slot) name) h).1

no_block : (full : Bool) (slot : ℕ) → same_name (state_name full slot) (Block slot) ≡ false
no_block true slot = refl
no_block false slot = refl

no_state : (full : Bool) (slot : ℕ) → same_name (Block slot) (state_name full slot) ≡ false
no_state true slot = refl
no_state false slot = refl

-- what a crash leaves of the files that are as they were
pub kept : {start disk : Disk} {name : Name} {bytes : List ℕ} {events : List Event}
    → IsStage start disk name bytes events → (crashed : Disk) → CrashLeaves start events crashed → (n : Name)
    → same_name name n ≡ false → crashed n ≡ disk n
kept {disk = disk} stage crashed leaves n apart = one_fits (disk n) (crashed n) (subst (λ (l : List Known). Fits l (crashed n)) (stage.others n apart) (leaves n))

module _ (ledger : Ledger) (block : BlockValue) (after : Snapshot) (micros : ℕ) (full : Bool) (state : List ℕ)
    (disk : Disk) (opens : Opens disk ledger) (is_after : Later ledger.head after.slot)
    (added : (crashed : Disk) → Agree after.slot crashed disk
    → crashed (state_name full after.slot) ≡ Some state
    → crashed (Block after.slot) ≡ Some (sealed (kept_bytes block micros))
    → Opens crashed (with_block ledger after)) where
  abbrev slot : ℕ
  slot = after.slot

  abbrev name : Name
  name = state_name full slot

  abbrev record_bytes : List ℕ
  record_bytes = sealed (kept_bytes block micros)

  abbrev Either : Disk → Type 0
  Either = IsBeforeOrAfter ledger block after micros disk

  -- while the state is put in its place, the chain is as it was
  pub first : (start : Disk) (events : List Event) → IsStage start disk name state events → (crashed : Disk) → CrashLeaves start events crashed → Either crashed
  first start events stage crashed leaves =
      let agree : Agree slot crashed disk = λ n apart. kept stage crashed leaves n (state_apart full slot n apart) in
      record {
        others = agree;
        chain = inl (still_opens slot crashed disk ledger agree (kept stage crashed leaves (Block slot) (no_block full slot)) is_after opens);
      }

  -- while the block is put in its place, the chain is as it was or has the block
  pub second : (start : Disk) (events : List Event) → IsStage start (with_file disk name state) (Block slot) record_bytes events → (crashed : Disk) → CrashLeaves start events crashed → Either crashed
  second start events stage crashed leaves =
      let agree : Agree slot crashed disk = λ n apart. kept stage crashed leaves n (block_apart slot n apart) ∙ cond-false (same_name name n) (Some state) (disk n) (state_apart full slot n apart) in
      let there : crashed name ≡ Some state = kept stage crashed leaves name (no_state full slot) ∙ cond-true (same_name name name) (Some state) (disk name) (same_name-self name) in
      record {
        others = agree;
        chain = ⊎_elim
            (λ old. inl (still_opens slot crashed disk ledger agree (old ∙ cond-false (same_name name (Block slot)) (Some state) (disk (Block slot)) (no_block full slot)) is_after opens))
            (λ new. inr (record { opens = added crashed agree there new; record_file = new }))
            (stage.file (crashed (Block slot)) (leaves (Block slot)));
      }

  -- once both are in their places, the chain has the block
  pub lasting : (start : Disk) (events : List Event)
      → Stands start events (with_file (with_file disk name state) (Block slot) record_bytes) → (crashed : Disk)
      → CrashLeaves start events crashed → IsAfter ledger block after micros crashed
  lasting start events stands crashed leaves =
      let here : crashed (Block slot) ≡ Some record_bytes = found (Block slot)
      ∙ cond-true (same_name (Block slot) (Block slot)) (Some record_bytes)
      (with_file disk name state (Block slot)) (same_name-self (Block slot)) in
      let there : crashed name ≡ Some state = found name
      ∙ cond-false (same_name (Block slot) name) (Some record_bytes) (with_file disk name state name)
      (no_state full slot) ∙ cond-true (same_name name name) (Some state) (disk name) (same_name-self name)
      in
      let agree : Agree slot crashed disk = λ n apart. found n
      ∙ cond-false (same_name (Block slot) n) (Some record_bytes) (with_file disk name state n)
      (block_apart slot n apart) ∙ cond-false (same_name name n) (Some state) (disk n)
      (state_apart full slot n apart) in
      record { opens = added crashed agree there here; record_file = here }
    where
      found : (n : Name) → crashed n ≡ with_file (with_file disk name state) (Block slot) record_bytes n
      found n = one_fits (with_file (with_file disk name state) (Block slot) record_bytes n) (crashed n) (subst (λ (l : List Known). Fits l (crashed n)) (stands.lasts n) (leaves n))

  module _ (old : List Event) (start : Disk) (stands : Stands start old disk) where
    -- a crash after these events leaves the chain before the block or after it
    abbrev Kept : List Event → Type 0
    Kept = Survives start Either

    abbrev placed_state : List Event
    placed_state = placing name state old

    on : Stands start placed_state (with_file disk name state)
    on = stands_then start disk old stands name state

    state_done : Done Kept old placed_state
    state_done = done_placed start disk old stands name state Either (first start) placed_state refl

    -- where the state was not put in its place
    pub stopped_first : (new : List Event) → StoppedPlacing name state old new → Done Kept old new
    stopped_first new stopped = done_stopped start disk old stands name state Either (first start) new stopped

    -- where the block was not
    pub stopped_second : (new : List Event) → StoppedPlacing (Block slot) record_bytes placed_state new → Done Kept old new
    stopped_second new stopped =
        Done-then Kept old placed_state new state_done (done_stopped start (with_file disk name state) placed_state on (Block slot) record_bytes Either (second start) new stopped)

    -- where both were
    pub both_placed : (new : List Event) → new ≡ placing (Block slot) record_bytes placed_state → Done Kept old new
    both_placed new e = Done-then Kept old placed_state new state_done (done_placed start (with_file disk name state) placed_state on (Block slot) record_bytes Either (second start) new e)

    -- and that lasts
    pub both_last : (new : List Event) → new ≡ placing (Block slot) record_bytes placed_state → (crashed : Disk) → CrashLeaves start new crashed → IsAfter ledger block after micros crashed
    both_last new e crashed leaves =
        lasting start (placing (Block slot) record_bytes placed_state) (stands_then start (with_file disk name state) placed_state on (Block slot) record_bytes) crashed
        (subst (λ (l : List Event). CrashLeaves start l crashed) e leaves)
