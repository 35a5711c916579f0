-- The serial run of the transactions of a block: the lamports that it pays, and the accounts that it adds.
use Rattle.std.proofs.Common.{◌≡◌, ◌≤◌, ◌<◌, ◌+◌, ◌-◌, ◌*◌, ◌∷◌, [], ℕ, zero, suc, List, length, map, All, sym, subst, ◌∙◌, add-one, arith}
use Rattle.std.specs.Prelude.{sum_by}
use Rattle.std.specs.List.{range_with_len}
use Rattle.std.proofs.lemmas.List.{length-map}
use Rattle.std.proofs.lemmas.List.FromFn.{length-map-range_with_len, sum_by-map-range_with_len_more, get_or-map-range_with_len}
use Rattle.sol_base.specs.declared.key.Key.{Key}
use Rattle.sol_base.specs.declared.account.Account.{Account}
use Rattle.sol_base.specs.declared.lock.Lock.{Lock}
use Rattle.sol_base.specs.Limits.{max_transaction_keys}
use Rattle.tx_report.specs.declared.outcome.Outcome.{Outcome}
use Rattle.account_store.specs.State.{State, IsState, at, len, put, sum}
use Rattle.bank_law.specs.Job.{keys, write_keys}
use Rattle.bank_law.specs.Lawful.{IsLawful}
use Rattle.bank_law.specs.Serial.{performed, result, serial}
use Rattle.bank_law.specs.SerialState.{put_each, serial_state}
use Rattle.bank_law.proofs.States.{serial_states, sums_move}
use Rattle.bank_core.specs.Ends.{serial_outcomes}
use Rattle.snapshot_codec.specs.declared.snapshot.Snapshot.{Snapshot}
use Rattle.snapshot_codec.specs.Snapshot.{IsReadable}
use Rattle.admission.specs.declared.chosen.Chosen.{Chosen}
use Rattle.admission.specs.Chosen.{IsChosen}
use Rattle.tx_exec.specs.declared.admitted.AdmittedBlock.{AdmittedBlock}
use Rattle.tx_exec.specs.AdmittedBlock.{job_of}
use Rattle.tx_report.specs.Outcomes.{IsSmallOutcome}
use Rattle.block_run.specs.SerialRun.{serial_run, told_in}
use Rattle.block_end.specs.BlockEnd.{base_fees, priority_fees}
use Rattle.block_end.specs.Ending.{AreOf, MayEnd}
use Rattle.block_end.proofs.Closings.{len-put}
use Rattle.tx_exec.proofs.Works.{works_are_lawful}
use Rattle.block_run.proofs.Positions.{locks_most, position_is_small, position_pays, written_keys_few}

-- ---- how many accounts there are
len-put_each : (s : State) (ks : List Key) (vs : List Account) → len (put_each s ks vs) ≤ len s + length ks
len-put_each s [] vs = omega arith
len-put_each s (k ∷ ks) [] = omega arith
len-put_each s (k ∷ ks) (v ∷ vs) = let a = len-put s k v in let b = len-put_each (put s k v) ks vs in omega (arith, a, b)

module _ (admitted : AdmittedBlock) (all : All IsChosen admitted.chosen) (start : State) (is : IsState start) where
  W : IsLawful (job_of admitted)
  W = works_are_lawful admitted all

  -- the outcomes of the first positions
  abbrev outcomes_to : ℕ → List Outcome
  outcomes_to n = map (result (job_of admitted) (at start)) (range_with_len 0 n)

  pub len_grows : (n : ℕ) → n ≤ length admitted.chosen → len (serial_state (job_of admitted) start n) ≤ len start + max_transaction_keys * n
  len_grows zero l = omega arith
  len_grows (suc n) l =
      let s = serial_state (job_of admitted) start n in
      let a = len-put_each s (write_keys (job_of admitted) n) (performed (job_of admitted) (at s) n).written in
      let b = written_keys_few (job_of admitted) n in
      let c = locks_most admitted all n (omega (arith, l)) in
      let rest = len_grows n (omega (arith, l)) in
      omega (arith, a, b, c, rest)

  -- a position takes its fees out of the accounts
  pub pays_once : (n : ℕ) → n < length admitted.chosen
      → sum (serial_state (job_of admitted) start (suc n)) + (result (job_of admitted) (at start) n).base_paid +
      (result (job_of admitted) (at start) n).priority_paid ≡ sum (serial_state (job_of admitted) start n)
  pays_once n l =
      let vs = map (serial (job_of admitted) (at start) n) (keys (job_of admitted) n) in
      let a = sums_move (job_of admitted) start W is n l in
      let b = position_pays admitted all n l vs (length-map (keys (job_of admitted) n) (serial (job_of admitted) (at start) n) ∙ length-map ((job_of admitted).locks n) (λ (lock : Lock). lock.key)) in
      omega (arith, a, b)

  more_paid : (paid : Outcome → ℕ) (n : ℕ) → sum_by paid (outcomes_to (suc n)) ≡ sum_by paid (outcomes_to n) + paid (result (job_of admitted) (at start) n)
  more_paid paid n =
      let z : 0 + n ≡ n = omega arith in
      subst (λ m. sum_by paid (map (result (job_of admitted) (at start)) (range_with_len 0 m))
      ≡ sum_by paid (map (result (job_of admitted) (at start)) (range_with_len 0 n)) + paid
      (result (job_of admitted) (at start) n)) (add-one n)
      (sum_by-map-range_with_len_more paid (result (job_of admitted) (at start)) 0 n n z)

  -- and all of them theirs
  pub pays_all : (n : ℕ) → n ≤ length admitted.chosen
      → sum (serial_state (job_of admitted) start n) + base_fees (outcomes_to n) + priority_fees (outcomes_to n) ≡ sum start
  pays_all zero l = omega arith
  pays_all (suc n) l =
      let one = pays_once n (omega (arith, l)) in
      let rest = pays_all n (omega (arith, l)) in
      let b = more_paid (λ (o : Outcome). o.base_paid) n in
      let p = more_paid (λ (o : Outcome). o.priority_paid) n in
      omega (arith, one, rest, b, p)

  pub all_small : All IsSmallOutcome (serial_outcomes (job_of admitted) (at start))
  all_small i d l =
      let here : i < length admitted.chosen = omega (arith, l, length-map-range_with_len (result (job_of admitted) (at start)) 0 (length admitted.chosen)) in
      subst IsSmallOutcome (sym (get_or-map-range_with_len (result (job_of admitted) (at start)) 0 (length admitted.chosen) i i d here (omega arith)))
      (position_is_small admitted all i here (map (serial (job_of admitted) (at start) i) (keys (job_of admitted) i)))

-- a block may end with the serial run of its transactions
pub run_may_end : (s : Snapshot) (slot : ℕ) (wires : List (List ℕ)) (order : List Chosen) → IsReadable s → All IsChosen order → AreOf wires order → MayEnd wires order (serial_run s slot order)
unfolding serial_run
run_may_end s slot wires order readable all of =
    let admitted = told_in s slot order in
    let n = length order in
    record {
      of = of;
      one_each = length-map-range_with_len (result (job_of admitted) (at s.accounts)) 0 n;
      small = all_small admitted all s.accounts readable.state;
      state = serial_states (job_of admitted) s.accounts (works_are_lawful admitted all) readable.state n (omega arith);
      supply = omega (arith, pays_all admitted all s.accounts readable.state n (omega arith), readable.state.fits);
      room = omega (arith, len_grows admitted all s.accounts readable.state n (omega arith), readable.accounts, of.few);
    }
