use Rattle.std.proofs.Common.{ℕ, List, refl, ◌∙◌, ap, subst}
use Rattle.std.specs.Arc.{arc_value}
use Rattle.spec_base.specs.Reading.{Gives}
use Rattle.snapshot_codec.specs.declared.snapshot.Snapshot.{Snapshot}
use Rattle.ledger_store.specs.Faults.{is_ledger_memory}
use Rattle.ledger_store.specs.Seal.{unsealed}
use Rattle.ledger_store.specs.States.{state_from, whole_state}
use Rattle.ledger_store.proofs.Beside.{settled_gives, watched_state}
use Rattle.ledger_store.proofs.watching.full_told.Goals as goal

pub returns-clause-tells : goal.returns-clause-tells
returns-clause-tells c =
    let slot = c.args.slot in
    let file = c.args.file in
    let bytes = arc_value file.bytes in
    let told = c.whole_state-told.result in
    let body = c.unsealed.ensures ∙ ap (λ (l : List ℕ). unsealed l) c.as_slice.ensures in
    let gives = subst (λ (l : List ℕ). Gives is_ledger_memory (λ (s : Snapshot). s) told (whole_state slot l)) body c.whole_state-told.ensures.gives in
    settled_gives c.args.files.now c.push.new.self file told (state_from slot bytes) c.in_ok-push.ensures.ok (watched_state file slot bytes told c.requires refl gives)
