-- The steps of a block lead from the accounts of its snapshot to those after it.
use Rattle.std.proofs.Common.{◌≡◌, ◌≢◌, ◌≤◌, ◌+◌, ◌==◌, ◌∷◌, [], ℕ, suc, Bool, true, false, cond, List, length, map, Option, Some, None, All, refl, sym, ap, subst, ◌∙◌, arith}
use Rattle.std.specs.Prelude.{option_map, slice_get, unwrap_or}
use Rattle.std.specs.List.{AllByRecursion, enumerate_from, flat_map, zip}
use Rattle.std.proofs.lemmas.Bool.{eqb-true}
use Rattle.std.proofs.lemmas.List.{length-map}
use Rattle.std.proofs.lemmas.List.FromFn.{length-map-range_with_len}
use Rattle.std.proofs.lemmas.Option.{same_Some}
use Rattle.std.proofs.lemmas.Slice.Zip.{length-zip}
use Rattle.sol_base.specs.declared.key.Key.{Key}
use Rattle.sol_base.specs.declared.key.Hash32.{Hash32}
use Rattle.sol_base.specs.declared.account.Account.{Account}
use Rattle.sol_base.specs.Accounts.{empty_account}
use Rattle.sol_base.specs.Keys.{same_key}
use Rattle.message_codec.specs.declared.message.Tx.{Tx}
use Rattle.message_codec.specs.Roles.{all_keys}
use Rattle.tx_report.specs.declared.cause.DropCause.{DropCause}
use Rattle.tx_report.specs.declared.outcome.Outcome.{Outcome}
use Rattle.tx_report.specs.declared.status.Status.{Status}
use Rattle.tx_report.specs.declared.status.Status.TheVariants.{Good, Failed, Dropped}
use Rattle.account_store.specs.State.{State, at, kept}
use Rattle.loader_prog.specs.Loader.{activated, active}
use Rattle.snapshot_codec.specs.declared.batch.Batch.{Batch}
use Rattle.snapshot_codec.specs.declared.snapshot.Snapshot.{Snapshot}
use Rattle.block_record.specs.declared.block.Entry.{Entry}
use Rattle.admission.specs.declared.chosen.Chosen.{Chosen}
use Rattle.admission.specs.Chosen.{IsChosen}
use Rattle.bank_law.specs.Lawful.{IsSettled}
use Rattle.bank_law.specs.Serial.{result}
use Rattle.bank_law.proofs.States.{at_fits}
use Rattle.bank_law.proofs.Supply.{apart_if}
use Rattle.bank_core.specs.Ends.{serial_outcomes}
use Rattle.tx_exec.specs.declared.admitted.AdmittedBlock.{AdmittedBlock}
use Rattle.tx_exec.specs.AdmittedBlock.{block_of, job_of}
use Rattle.tx_exec.specs.Payer.{charged, total_fee}
use Rattle.tx_exec.specs.Transaction.{transaction}
use Rattle.block_end.specs.BlockEnd.{more}
use Rattle.block_end.specs.Blocks.{entry_of}
use Rattle.block_run.specs.Blocks.{block_result}
use Rattle.block_run.specs.SerialRun.{told_in}
use Rattle.block_laws.specs.Keeping.{CanRun, order_of}
use Rattle.block_laws.proofs.Keeps.{admitted_fit}
use Rattle.entry_laws.specs.Entries.{IsEntry, state_in}
use Rattle.entry_laws.specs.Left.{paid_to}
use Rattle.entry_laws.specs.Owners.{stretches_at}
use Rattle.entry_laws.specs.Stretches.{IsChain, KeepsWhatIsNotItsOwn, Stretch}
use Rattle.entry_laws.proofs.EntryLaws.{IsOfEntry, all_at, entries_are, entry_at, of_entry}
use Rattle.entry_laws.proofs.LeftLaws.{IsPaid, dropped_leave_nothing, ends_pay_and_activate, not_dropped_is_paid}
use Rattle.entry_laws.proofs.Steps.{comes_to, is_state, keeps, under_its_keys, under_other_keys}
use Rattle.entry_laws.proofs.StretchLaws.{transaction_stretches}
use Rattle.ownership_laws.specs.Steps.{Accounts, IsPath, Step, Ends}
use Rattle.ownership_laws.specs.Blocks.{BlocksGoInSteps, steps_at, steps_by}
use Rattle.ownership_laws.proofs.Paths.{paid_path, path_both}

-- ---- the end of a block
active_empty : active empty_account ≡ empty_account
unfolding activated
active_empty = refl

active_kept : (p : Account) → IsSettled p → unwrap_or (option_map active (kept p)) empty_account ≡ active p
active_kept p fine = by_case (p.lamports == 0) refl
  where
    by_case : (b : Bool) → (p.lamports == 0) ≡ b → unwrap_or (option_map active (let o : Option Account = cond b None (Some p) in o)) empty_account ≡ active p
    by_case true none = sym active_empty ∙ ap active (sym (fine (eqb-true p.lamports 0 none)))
    by_case false some = refl

more_settled : (account : Account) (collected : ℕ) → IsSettled account → IsSettled (more account collected)
more_settled account collected fine none =
    let had : account.lamports ≡ 0 = omega (arith, none) in
    let nothing : collected ≡ 0 = omega (arith, none) in
    ap (λ (a : Account). more a collected) (fine had) ∙ ap (λ (n : ℕ). more empty_account n) nothing

paid_settled : (collector : Key) (collected : ℕ) (key : Key) (account : Account) → IsSettled account → IsSettled (paid_to collector collected key account)
paid_settled collector collected key account fine = by_case (same_key key collector)
  where
    by_case : (b : Bool) → IsSettled (cond b (more account collected) account)
    by_case true = more_settled account collected fine
    by_case false = fine

-- ---- an entry
module _ (s : Snapshot) (batch : Batch) (runs : CanRun s batch.wires) where
  abbrev order : List Chosen
  order = order_of s batch

  abbrev told : AdmittedBlock
  told = told_in s batch.slot order

  -- the accounts where so many entries ran
  abbrev now : ℕ → Accounts
  now n = at (state_in s batch n)

  all : All IsChosen order
  all = admitted_fit s batch runs

  settled_now : (n : ℕ) → n ≤ length order → (key : Key) → IsSettled (now n key)
  settled_now n l key = (at_fits (state_in s batch n) (is_state told all s.accounts runs.0.state n l) key).1

  module _ (i : ℕ) (entry : Entry) (tx : Tx) (name : Hash32) (e : IsEntry s batch i entry tx name) (of : IsOfEntry s batch i entry tx name) where
    abbrev t : Chosen
    t = of.t

    abbrev keys : List Key
    keys = all_keys t.tx.message t.loaded

    abbrev given : List Account
    given = map (now i) keys

    abbrev outcome : Outcome
    outcome = (transaction (block_of told) t given).outcome

    abbrev left : List Account
    left = (transaction (block_of told) t given).values

    fits : IsChosen t
    fits = all_at IsChosen order i t all of.chosen

    is_outcome : entry ≡ entry_of batch.wires (t, outcome)
    is_outcome = of.is ∙ ap (λ (o : Outcome). entry_of batch.wires (t, o)) (comes_to told all s.accounts runs.0.state i of.below t of.chosen fits)

    is_status : entry.status ≡ outcome.status
    is_status = ap (λ (x : Entry). x.status) is_outcome

    -- the steps of one that was not dropped
    not_dropped : (parts : List Stretch) → ((cause : DropCause) → outcome.status ≢ Dropped cause) → IsChain (charged given (total_fee t)) parts left
        → AllByRecursion KeepsWhatIsNotItsOwn parts → IsPath (now i) (steps_by keys entry.fee parts Good) (now (suc i))
    not_dropped parts other chain kept =
        let paid : IsPaid (block_of told) t given = not_dropped_is_paid (block_of told) t given other in
        let fee : total_fee t ≡ entry.fee = sym paid.pays ∙ sym (ap (λ (x : Entry). x.fee) is_outcome) in
        let below = of.below in
        subst (λ (n : ℕ). IsPath (now i) (steps_by keys n parts Good) (now (suc i))) fee
        (paid_path keys (now i) (now (suc i)) (total_fee t) parts left (apart_if keys fits.apart) paid.able chain kept
        (under_its_keys told all s.accounts runs.0.state i of.below t of.chosen fits) (under_other_keys told all s.accounts runs.0.state i of.below t of.chosen fits)
        (settled_now i (omega (arith, below))))

    by_status : (status : Status) → entry.status ≡ status → IsPath (now i) (steps_by keys entry.fee (stretches_at s batch i t) status) (now (suc i))
    by_status Good is =
        let both = transaction_stretches (block_of told) t given fits (length-map keys (now i)) in
        not_dropped (stretches_at s batch i t) (λ cause d. let no = sym is ∙ is_status ∙ d in absurd (cc)) (both.1 (sym is_status ∙ is)) both.0
    by_status (Failed index cause detail) is =
        let kept = keeps told all s.accounts runs.0.state i of.below t of.chosen fits in
        not_dropped [] (λ cause d. let no = sym is ∙ is_status ∙ d in absurd (cc)) (sym (kept.failed index cause detail (sym is_status ∙ is))) tt
    by_status (Dropped cause) is = ap (λ (state : State). at state) (sym (dropped_leave_nothing s batch runs i entry tx name e cause is))

  entry_path : (i : ℕ) (t : Chosen) (entry : Entry) → slice_get order i ≡ Some t → slice_get (block_result s batch).block.entries i ≡ Some entry
      → IsPath (now i) (steps_at s batch (i, (t, entry))) (now (suc i))
  entry_path i t entry chosen there =
      let e : IsEntry s batch i entry t.tx t.name = entry_at s batch i t entry chosen there in
      let one : IsOfEntry s batch i entry t.tx t.name = of_entry s batch i entry t.tx t.name e in
      subst (λ (u : Chosen). IsPath (now i) (steps_at s batch (i, (u, entry))) (now (suc i))) (same_Some one.t t (sym one.chosen ∙ chosen))
      (by_status i entry t.tx t.name e one entry.status refl)

-- ---- all entries
walk : (now : ℕ → Accounts) (steps : ℕ × (Chosen × Entry) → List Step) (n : ℕ) (ts : List Chosen) (es : List Entry) → length es ≡ length ts
    → ((k : ℕ) (t : Chosen) (entry : Entry) → slice_get ts k ≡ Some t → slice_get es k ≡ Some entry → IsPath (now (n + k)) (steps (n + k, (t, entry))) (now (suc (n + k))))
    → IsPath (now n) (flat_map steps (enumerate_from n (zip ts es))) (now (n + length ts))
walk now steps n [] es count each = ap now (let e : n ≡ n + 0 = omega arith in e)
walk now steps n (t ∷ ts) [] count each = absurd (omega (arith, count))
walk now steps n (t ∷ ts) (entry ∷ es) count each =
    let here : n + 0 ≡ n = omega arith in
    let next : suc n ≡ n + 1 = omega arith in
    let end : (n + 1) + length ts ≡ n + length (t ∷ ts) = omega arith in
    let one : IsPath (now n) (steps (n, (t, entry))) (now (n + 1)) =
    subst (λ (m : ℕ). IsPath (now n) (steps (n, (t, entry))) (now m)) next (subst (λ (m : ℕ). IsPath (now m) (steps (m, (t, entry))) (now (suc m))) here (each 0 t entry refl refl)) in
    let others : IsPath (now (n + 1)) (flat_map steps (enumerate_from (n + 1) (zip ts es))) (now ((n + 1) + length ts)) =
    walk now steps (n + 1) ts es (omega (arith, count))
    (λ k u x a b. let same : n + suc k ≡ (n + 1) + k = omega arith in subst (λ (m : ℕ). IsPath (now m) (steps (m, (u, x))) (now (suc m))) same (each (suc k) u x a b)) in
    path_both (now n) (steps (n, (t, entry))) (now (n + 1)) (flat_map steps (enumerate_from (n + 1) (zip ts es))) (now (n + length (t ∷ ts))) one
    (subst (λ (m : ℕ). IsPath (now (n + 1)) (flat_map steps (enumerate_from (n + 1) (zip ts es))) (now m)) end others)

-- an entry for each transaction
entry_count : (s : Snapshot) (batch : Batch) → length (block_result s batch).block.entries ≡ length (order_of s batch)
entry_count s batch =
    let outcomes = serial_outcomes (job_of (told_in s batch.slot (order_of s batch))) (at s.accounts) in
    let zipped = length-zip (order_of s batch) outcomes in
    let some = length-map-range_with_len (result (job_of (told_in s batch.slot (order_of s batch))) (at s.accounts)) 0 (length (order_of s batch)) in
    ap length (entries_are s batch) ∙ length-map (zip (order_of s batch) outcomes) (entry_of batch.wires) ∙ zipped ∙ omega (arith, some)

-- the accounts after the last entry
abbrev pub last_of : Snapshot → Batch → Accounts
last_of s batch = at (state_in s batch (length (order_of s batch)))

abbrev pub entry_steps : Snapshot → Batch → List Step
entry_steps s batch = flat_map (steps_at s batch) (enumerate_from 0 (zip (order_of s batch) (block_result s batch).block.entries))

pub entries_path : (s : Snapshot) (batch : Batch) → CanRun s batch.wires → IsPath (at s.accounts) (entry_steps s batch) (last_of s batch)
entries_path s batch runs =
    let none : 0 + length (order_of s batch) ≡ length (order_of s batch) = omega arith in
    subst (λ (m : ℕ). IsPath (at s.accounts) (entry_steps s batch) (at (state_in s batch m))) none
    (walk (λ n. at (state_in s batch n)) (steps_at s batch) 0 (order_of s batch) (block_result s batch).block.entries (entry_count s batch)
    (λ k t entry chosen there.
    let same : k ≡ 0 + k = omega arith in
    subst (λ (m : ℕ). IsPath (at (state_in s batch m)) (steps_at s batch (m, (t, entry))) (at (state_in s batch (suc m)))) same (entry_path s batch runs k t entry chosen there)))

pub ends_so : (s : Snapshot) (batch : Batch) → CanRun s batch.wires → (key : Key)
    → at (block_result s batch).after.accounts key ≡ active (paid_to batch.collector (block_result s batch).block.collected key (last_of s batch key))
ends_so s batch runs key =
    let paid : Account = paid_to batch.collector (block_result s batch).block.collected key (last_of s batch key) in
    ap (λ (o : Option Account). unwrap_or o empty_account) (ends_pay_and_activate s batch runs key)
    ∙ active_kept paid (paid_settled batch.collector (block_result s batch).block.collected key (last_of s batch key) (settled_now s batch runs (length (order_of s batch)) (omega arith) key))

pub go_in_steps : BlocksGoInSteps
go_in_steps s batch runs =
    path_both (at s.accounts) (entry_steps s batch) (last_of s batch) (Ends batch.collector (block_result s batch).block.collected ∷ []) (at (block_result s batch).after.accounts)
    (entries_path s batch runs) (record { next = at (block_result s batch).after.accounts; makes = ends_so s batch runs; on = refl })
