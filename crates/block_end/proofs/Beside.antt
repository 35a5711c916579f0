-- Transactions beside their outcomes.
use Rattle.std.proofs.Common.{◌≡◌, ◌<◌, ◌+◌, ◌∷◌, [], ◌++◌, ℕ, List, length, map, take, get_or, sym, ap, ◌∙◌}
use Rattle.std.specs.List.{flat_map, zip}
use Rattle.std.proofs.lemmas.Grind.{flat_map-append}
use Rattle.std.proofs.lemmas.List.{append-nil, map-append}
use Rattle.tx_report.specs.declared.outcome.Outcome.{Outcome}
use Rattle.block_record.specs.declared.block.Entry.{Entry}
use Rattle.block_record.specs.Record.{entry_bytes}
use Rattle.admission.specs.declared.chosen.Chosen.{Chosen}
use Rattle.block_end.specs.Blocks.{entries_of, entry_of}
use Rattle.block_end.proofs.Sorting.{zip_more, zip_pushed}

-- one entry more
pub entries_more : (wires : List (List ℕ)) (order : List Chosen) (done : List Outcome) (outcome : Outcome) (entries new : List Entry) (t : Chosen)
    → entries ≡ map (entry_of wires) (zip (take (length done) order) done) → length done < length order
    → new ≡ entries ++ entry_of wires (get_or order (length done) t, outcome) ∷ []
    → new ≡ map (entry_of wires) (zip (take (length (done ++ outcome ∷ [])) order) (done ++ outcome ∷ []))
entries_more wires order done outcome entries new t so_far below pushed =
    pushed ∙ ap (λ (es : List Entry). es ++ entry_of wires (get_or order (length done) t, outcome) ∷ []) so_far
    ∙ sym (ap (map (entry_of wires)) (zip_pushed order done t outcome below)
    ∙ map-append (entry_of wires) (zip (take (length done) order) done) ((get_or order (length done) t, outcome) ∷ []))

-- the bytes of one entry more
pub bytes_more : (wires : List (List ℕ)) (order : List Chosen) (outcomes : List Outcome) (i : ℕ) (t : Chosen) (o : Outcome) → i < length order → i < length outcomes
    → flat_map entry_bytes (entries_of wires (take (i + 1) order) (take (i + 1) outcomes))
    ≡ flat_map entry_bytes (entries_of wires (take i order) (take i outcomes))
    ++ entry_bytes (entry_of wires (get_or order i t, get_or outcomes i o))
bytes_more wires order outcomes i t o here there =
    let done = entries_of wires (take i order) (take i outcomes) in
    let one = entry_of wires (get_or order i t, get_or outcomes i o) in
    ap (λ (es : List (Chosen × Outcome)). flat_map entry_bytes (map (entry_of wires) es)) (zip_more order outcomes i t o here there)
    ∙ ap (flat_map entry_bytes) (map-append (entry_of wires) (zip (take i order) (take i outcomes)) ((get_or order i t, get_or outcomes i o) ∷ []))
    ∙ flat_map-append entry_bytes done (one ∷ [])
    ∙ ap (λ (bs : List ℕ). flat_map entry_bytes done ++ bs) (append-nil (entry_bytes one))
