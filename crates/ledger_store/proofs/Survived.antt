-- A crash at any moment of the call that adds a block.
use Rattle.std.proofs.Common.{◌≡◌, ◌⊎◌, ◌≤◌, inl, ⊎_elim, ℕ, List, [], true, sym, subst}
use Rattle.snapshot_codec.specs.declared.snapshot.Snapshot.{Snapshot}
use Rattle.snapshot_codec.specs.Snapshot.{IsReadable, HasWidths}
use Rattle.block_record.specs.declared.block.Block.{Block as BlockValue}
use Rattle.ledger_folder.specs.declared.name.Name.{Name}
use Rattle.ledger_folder.specs.declared.name.Name.TheVariants.{Block}
use Rattle.ledger_folder.specs.declared.event.Event.{Event}
use Rattle.ledger_folder.specs.Files.{Disk, Known}
use Rattle.ledger_folder.specs.Crash.{Fits, CrashLeaves, Lasts, LeavesOnly}
use Rattle.ledger_folder.specs.Placing.{StoppedPlacing, placing}
use Rattle.ledger_folder.proofs.Moments.{at_each_moment}
use Rattle.ledger_folder.proofs.Stages.{one_fits}
use Rattle.ledger_folder.proofs.Twice.{Survives}
use Rattle.ledger_store.specs.declared.opening.Ledger.{Ledger}
use Rattle.ledger_store.specs.declared.adding.NewFiles.{NewFiles}
use Rattle.ledger_store.specs.Seal.{sealed}
use Rattle.ledger_store.specs.Reading.{Opens, IsOpen}
use Rattle.ledger_store.specs.Adding.{Follows, is_later, is_next_full, new_files, state_body, IsAfter, IsBeforeOrAfter}
use Rattle.ledger_store.proofs.Same.{later}
use Rattle.ledger_store.proofs.Crashes.{stopped_first, stopped_second, both_last, both_placed}
use Rattle.ledger_store.proofs.Added.{added}

-- where no step was made
pub unchanged : (ledger : Ledger) (block : BlockValue) (after : Snapshot) (micros : ℕ) (old new : List Event)
    → IsOpen old ledger → new ≡ old → LeavesOnly old new (IsBeforeOrAfter ledger block after micros)
unchanged ledger block after micros old new is_open same disk shows later since h =
    at_each_moment (Survives shows.start (IsBeforeOrAfter ledger block after micros disk)) old new later since (record { done = []; each = here; is = same }) h
  where
    here : (found : Disk) → CrashLeaves shows.start old found → IsBeforeOrAfter ledger block after micros disk found
    here found left =
        let each : (name : Name) → found name ≡ disk name = λ name. one_fits (disk name) (found name) (subst (λ (l : List Known). Fits l (found name)) (shows.stands.lasts name) (left name)) in
        let whole : found ≡ disk = λ i name. each name i in
        record {
          others = λ name apart. each name;
          chain = inl (subst (λ (d : Disk). Opens d ledger) (sym whole) (is_open.opens disk shows));
        }

module _ (ledger : Ledger) (block : BlockValue) (after : Snapshot) (micros : ℕ) (old new : List Event)
    (is_open : IsOpen old ledger) (some : 1 ≤ ledger.head.every) (was : IsReadable ledger.newest)
    (is : IsReadable after)
    (follows : Follows ledger.newest block after) (is_after : is_later ledger.head after.slot ≡ true)
    (files : NewFiles) (made : files ≡ new_files ledger block after micros)
    (has : HasWidths after) where
  abbrev Wanted : Type 0
  Wanted = LeavesOnly old new (IsBeforeOrAfter ledger block after micros)

  abbrev Stopped : NewFiles → Type 0
  Stopped f =
      StoppedPlacing f.name f.state old new ⊎ StoppedPlacing (Block after.slot) f.record_file (placing f.name f.state old) new

  abbrev Placed : NewFiles → Type 0
  Placed f = new ≡ placing (Block after.slot) f.record_file (placing f.name f.state old)

  -- where a step failed
  pub stopped : Stopped files → Wanted
  stopped given disk shows later_events since h =
      let opens = is_open.opens disk shows in
      let apart = later ledger.head after.slot is_after in
      let full = is_next_full ledger in
      let state = sealed (state_body full ledger.newest after) in
      let then = added ledger block after micros some was is is_open.widths has follows disk opens apart in
      at_each_moment (Survives shows.start (IsBeforeOrAfter ledger block after micros disk)) old new later_events since
      (⊎_elim (λ first. stopped_first ledger block after micros full state disk opens apart then old shows.start shows.stands new first)
      (λ second. stopped_second ledger block after micros full state disk opens apart then old shows.start shows.stands new second)
      (subst Stopped made given)) h

  -- where all were made
  pub placed : Placed files → Wanted
  placed given disk shows later_events since h =
      let opens = is_open.opens disk shows in
      let apart = later ledger.head after.slot is_after in
      let full = is_next_full ledger in
      let state = sealed (state_body full ledger.newest after) in
      let then = added ledger block after micros some was is is_open.widths has follows disk opens apart in
      at_each_moment (Survives shows.start (IsBeforeOrAfter ledger block after micros disk)) old new later_events since
      (both_placed ledger block after micros full state disk opens apart then old shows.start shows.stands new (subst Placed made given)) h

  -- and what was done then lasts
  pub lasts : Placed files → Lasts old new (λ _ crashed. IsAfter ledger block after micros crashed)
  lasts given disk shows crashed leaves =
      let opens = is_open.opens disk shows in
      let apart = later ledger.head after.slot is_after in
      let full = is_next_full ledger in
      let state = sealed (state_body full ledger.newest after) in
      let then = added ledger block after micros some was is is_open.widths has follows disk opens apart in
      both_last ledger block after micros full state disk opens apart then old shows.start shows.stands new (subst Placed made given) crashed leaves
