-- An entry of a block, and the transaction that it is of.
use Rattle.std.proofs.Common.{◌≡◌, ◌<◌, ◌+◌, ◌∷◌, [], ℕ, zero, suc, List, length, map, Some, All, refl, sym, ap, subst, ◌∙◌, arith}
use Rattle.std.specs.Prelude.{slice_get}
use Rattle.std.specs.List.{range_with_len}
use Rattle.std.proofs.lemmas.Option.{get_or_from_slice_get, same_Some, slice_get_within}
use Rattle.sol_base.specs.declared.key.Hash32.{Hash32}
use Rattle.message_codec.specs.declared.message.Tx.{Tx}
use Rattle.message_codec.specs.declared.parsed.Parsed.{Parsed}
use Rattle.message_codec.specs.declared.parsed.Parsed.TheVariants.{Good}
use Rattle.message_codec.specs.Parsing.{parsed_of}
use Rattle.account_store.specs.State.{at}
use Rattle.snapshot_codec.specs.declared.batch.Batch.{Batch}
use Rattle.snapshot_codec.specs.declared.snapshot.Snapshot.{Snapshot}
use Rattle.block_record.specs.declared.block.Entry.{Entry}
use Rattle.tx_report.specs.declared.outcome.Outcome.{Outcome}
use Rattle.admission.specs.declared.chosen.Chosen.{Chosen}
use Rattle.admission.specs.Batches.{IsOf}
use Rattle.admission.proofs.PartLaws.{admitted_batches_are_parted}
use Rattle.bank_law.specs.Serial.{result}
use Rattle.tx_exec.specs.AdmittedBlock.{job_of}
use Rattle.bank_core.specs.Ends.{serial_outcomes}
use Rattle.block_end.specs.Blocks.{entries_of, entry_of}
use Rattle.block_run.specs.Blocks.{block_result, closed, start_in}
use Rattle.block_run.specs.SerialRun.{serial_run, told_in}
use Rattle.block_laws.specs.Keeping.{order_of}
use Rattle.block_laws.specs.Laws.{outcome_of}
use Rattle.entry_laws.specs.Entries.{IsEntry}

-- what an entry is made of
record IsMade (order : List Chosen) (outcomes : List Outcome) (wires : List (List ℕ)) (i : ℕ) (entry : Entry) : Type 0 where
  pub t : Chosen
  pub outcome : Outcome
  pub chosen : slice_get order i ≡ Some t
  pub came : slice_get outcomes i ≡ Some outcome
  pub is : entry ≡ entry_of wires (t, outcome)

made_of : (wires : List (List ℕ)) (order : List Chosen) (outcomes : List Outcome) (i : ℕ) (entry : Entry)
    → slice_get (entries_of wires order outcomes) i ≡ Some entry → IsMade order outcomes wires i entry
made_of wires [] outcomes i entry there = absurd (cc)
made_of wires (t ∷ ts) [] i entry there = absurd (cc)
made_of wires (t ∷ ts) (o ∷ os) zero entry there = record { t = t; outcome = o; chosen = refl; came = refl; is = sym (same_Some (entry_of wires (t, o)) entry there) }
made_of wires (t ∷ ts) (o ∷ os) (suc i) entry there =
    let more = made_of wires ts os i entry there in
    record { t = more.t; outcome = more.outcome; chosen = more.chosen; came = more.came; is = more.is }

-- an outcome of a run is that of its position
came_at : (f : ℕ → Outcome) (a n i : ℕ) (o : Outcome) → slice_get (map f (range_with_len a n)) i ≡ Some o → o ≡ f (a + i)
came_at f a zero i o there = absurd (cc)
came_at f a (suc n) zero o there = sym (same_Some (f a) o there) ∙ ap f (let e : a ≡ a + 0 = omega arith in e)
came_at f a (suc n) (suc i) o there = came_at f (a + 1) n i o there ∙ ap f (let e : (a + 1) + i ≡ a + suc i = omega arith in e)

-- what holds of all holds of one of them
pub all_at : {X : Type 0} (P : X → Type 0) (xs : List X) (i : ℕ) (x : X) → All P xs → slice_get xs i ≡ Some x → P x
all_at P xs i x all there = subst P (get_or_from_slice_get xs i x x there) (all i x (slice_get_within xs i x there))

same_tx : (tx other : Tx) (name another : Hash32) → ◌≡◌ {A = Parsed} (Good tx name) (Good other another) → (tx ≡ other) × (name ≡ another)
same_tx tx other name another e = (cc, cc)

-- the transaction of an entry
pub record IsOfEntry (s : Snapshot) (batch : Batch) (i : ℕ) (entry : Entry) (tx : Tx) (name : Hash32) : Type 0 where
  pub t : Chosen
  pub chosen : slice_get (order_of s batch) i ≡ Some t
  pub below : i < length (order_of s batch)
  pub is : entry ≡ entry_of batch.wires (t, outcome_of s batch.slot (order_of s batch) i)
  pub same : t.tx ≡ tx
  pub named : t.name ≡ name

module _ (s : Snapshot) (batch : Batch) where
  -- the entries of a block are those of its run
  pub entries_are : (block_result s batch).block.entries
      ≡ entries_of batch.wires (order_of s batch) (serial_outcomes (job_of (told_in s batch.slot (order_of s batch))) (at s.accounts))
  unfolding block_result closed serial_run
  entries_are = refl

  pub of_entry : (i : ℕ) (entry : Entry) (tx : Tx) (name : Hash32) → IsEntry s batch i entry tx name → IsOfEntry s batch i entry tx name
  of_entry i entry tx name e =
      let outcomes = serial_outcomes (job_of (told_in s batch.slot (order_of s batch))) (at s.accounts) in
      let made : IsMade (order_of s batch) outcomes batch.wires i entry = made_of batch.wires (order_of s batch) outcomes i entry
      (ap (λ (es : List Entry). slice_get es i) (sym entries_are) ∙ e.there) in
      let came : made.outcome ≡ result (job_of (told_in s batch.slot (order_of s batch))) (at s.accounts) (0 + i) =
      came_at (result (job_of (told_in s batch.slot (order_of s batch))) (at s.accounts)) 0 (length (order_of s batch)) i made.outcome made.came in
      let zero_add : 0 + i ≡ i = omega arith in
      let is : entry ≡ entry_of batch.wires (made.t, outcome_of s batch.slot (order_of s batch) i) =
      made.is ∙ ap (λ (o : Outcome). entry_of batch.wires (made.t, o)) (came ∙ ap (result (job_of (told_in s batch.slot (order_of s batch))) (at s.accounts)) zero_add) in
      let of : IsOf batch.wires made.t = all_at (IsOf batch.wires) (order_of s batch) i made.t (admitted_batches_are_parted (start_in s) batch.wires).each made.chosen in
      let both = same_tx made.t.tx tx made.t.name name (sym of.read ∙ ap (λ (x : Entry). parsed_of x.wire) (sym is) ∙ e.read) in
      record {
        t = made.t;
        chosen = made.chosen;
        below = slice_get_within (order_of s batch) i made.t made.chosen;
        is = is;
        same = both.0;
        named = both.1;
      }

  -- an entry is of the transaction at its position
  pub entry_at : (i : ℕ) (t : Chosen) (entry : Entry) → slice_get (order_of s batch) i ≡ Some t → slice_get (block_result s batch).block.entries i ≡ Some entry
      → IsEntry s batch i entry t.tx t.name
  entry_at i t entry chosen there =
      let made : IsMade (order_of s batch) (serial_outcomes (job_of (told_in s batch.slot (order_of s batch))) (at s.accounts)) batch.wires i entry =
      made_of batch.wires (order_of s batch) (serial_outcomes (job_of (told_in s batch.slot (order_of s batch))) (at s.accounts)) i entry
      (ap (λ (es : List Entry). slice_get es i) (sym entries_are) ∙ there) in
      let of : IsOf batch.wires made.t = all_at (IsOf batch.wires) (order_of s batch) i made.t (admitted_batches_are_parted (start_in s) batch.wires).each made.chosen in
      record {
        there = there;
        read = subst (λ (c : Chosen). parsed_of entry.wire ≡ Good c.tx c.name) (same_Some made.t t (sym made.chosen ∙ chosen)) (ap (λ (x : Entry). parsed_of x.wire) made.is ∙ of.read);
      }
