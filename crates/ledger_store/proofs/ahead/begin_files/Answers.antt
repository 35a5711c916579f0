use Rattle.std.proofs.Common.{◌≡◌, ◌+◌, ◌∷◌, ◌++◌, [], ℕ, List, Option, map, drop, slice_index, sym, ◌∙◌, ap, append_assoc}
use Rattle.std.proofs.lemmas.List.{at_drop_more, map-append}
use Rattle.spec_base.proofs.Binding.{ok_same}
use Rattle.ledger_folder.specs.declared.name.Name.TheVariants.{Changes}
use Rattle.ledger_store.specs.declared.ahead.Ahead.{Ahead}
use Rattle.ledger_store.specs.declared.fault.LedgerFault.{LedgerFault}
use Rattle.ledger_store.specs.Ahead.{files_of, seen}
use Rattle.ledger_store.proofs.JustReads.{reads_then}
use Rattle.ledger_store.proofs.ahead.begin_files.Goals as goal

pub loop-slot-preserved : goal.loop-slot-preserved
loop-slot-preserved g c = record {
  told = λ disk shows.
      let slots = c.args.slots.now in
      let i = c.loop-slot.slot-index in
      let files = c.loop-slot.files in
      let file = c.in_ok-file.file in
      let here : ℕ × Option (List ℕ) = (slice_index slots i, disk (Changes (slice_index slots i))) in
      let s = c.in_ok-file.ensures.tells disk shows in
      let b = c.loop-slot.invariant.told disk s.0 in
      let rest = files_of disk (drop (i + 1) slots) in
      let same : here ≡ seen file = ok_same {E = LedgerFault} here (seen file) s.1 in
      let step = at_drop_more (λ (l : List ℕ). map seen files ++ files_of disk l) slots i 0 c.loop-slot-test.true in (
        b.0,
        ap (λ (l : List Ahead). map seen l ++ rest) c.in_ok-push.ensures.ok
            ∙ ap (λ (l : List (ℕ × Option (List ℕ))). l ++ rest) (map-append seen files (file ∷ []))
            ∙ append_assoc (map seen files) (seen file ∷ []) rest
            ∙ ap (λ (x : ℕ × Option (List ℕ)). map seen files ++ x ∷ rest) (sym same) ∙ sym step ∙ b.1,
      );
  reads = reads_then (g.F.Folder.events c.args.folder.now) (g.F.Folder.events c.loop-slot.folder) (g.F.Folder.events c.begin_file.new.folder) c.loop-slot.invariant.reads c.in_ok-file.ensures.reads;
  stands = c.in_ok-file.ensures.counts ∙ c.loop-slot.invariant.stands;
}
