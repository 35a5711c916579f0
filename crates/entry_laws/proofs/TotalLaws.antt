-- The fees and the units of a block's entries together.
use Rattle.std.proofs.Common.{◌≡◌, ◌≤◌, ◌+◌, ◌==◌, ◌&&◌, ◌||◌, ◌∷◌, [], ◌++◌, ℕ, suc, Bool, true, false, not, cond, List, length, map, filter, fold, Option, Some, None, refl, sym, ap, subst, ◌∙◌, arith}
use Rattle.std.specs.Prelude.{if◌then◌else◌, nat_lt, slice_get}
use Rattle.std.specs.List.{list_any, range_with_len, zip}
use Rattle.std.proofs.lemmas.Bool.Decides.{nat_tests}
use Rattle.std.proofs.lemmas.List.FromFn.{length-map-range_with_len}
use Rattle.std.proofs.lemmas.List.Sums.{sum_by-cons}
use Rattle.sol_base.specs.declared.account.Account.{Account}
use Rattle.sol_base.specs.declared.key.Key.{Key}
use Rattle.sol_base.specs.declared.limits.Limits.{Limits}
use Rattle.sol_base.specs.declared.lock.Lock.{Lock}
use Rattle.sol_base.specs.Keys.{same_key}
use Rattle.sol_base.proofs.KeyLaws.{same_key-true}
use Rattle.message_codec.specs.Parsing.{parsed_of}
use Rattle.fee_rules.specs.declared.split.FeeSplit.{FeeSplit}
use Rattle.fee_rules.specs.Fees.{split_of}
use Rattle.tx_report.specs.declared.outcome.Outcome.{Outcome}
use Rattle.account_store.specs.State.{State, at, put}
use Rattle.snapshot_codec.specs.declared.batch.Batch.{Batch}
use Rattle.snapshot_codec.specs.declared.snapshot.Snapshot.{Snapshot}
use Rattle.block_record.specs.declared.block.Entry.{Entry}
use Rattle.admission.specs.declared.chosen.Chosen.{Chosen}
use Rattle.admission.specs.declared.refusal.Refusal.{Refusal}
use Rattle.admission.specs.declared.refusal.Refusal.TheVariants.{BlockUnits, KeyUnits}
use Rattle.admission.specs.Admission.{Start, Walk, admitted, late, line, locks_write, may_write_key, passes_key_units, sifted_out, units_of, units_on, walk_with}
use Rattle.admission.specs.Chosen.{IsChosen}
use Rattle.admission.proofs.SumLaws.{units_more, units_on_more}
use Rattle.bank_law.specs.Job.{lock_keys}
use Rattle.bank_law.specs.Serial.{result, serial}
use Rattle.bank_core.specs.Ends.{serial_outcomes}
use Rattle.tx_exec.specs.declared.admitted.AdmittedBlock.{AdmittedBlock}
use Rattle.tx_exec.specs.AdmittedBlock.{block_of, effects_at, job_of, locks_at}
use Rattle.tx_exec.proofs.Outcomes.{transaction_outcome}
use Rattle.block_end.specs.BlockEnd.{Shares, base_fees, may_collect, more, priority_fees, share, share_fees}
use Rattle.block_end.specs.Blocks.{entries_of, entry_of}
use Rattle.block_run.specs.Blocks.{block_result, closed, start_in}
use Rattle.block_run.specs.SerialRun.{serial_run, told_in}
use Rattle.block_laws.specs.Keeping.{CanRun, order_of}
use Rattle.block_laws.proofs.Keeps.{admitted_fit}
use Rattle.entry_laws.specs.Sums.{FeesAreShared, UnitsAreWithinLimits, fees_in, units_in, writers_of}
use Rattle.entry_laws.proofs.EntryLaws.{all_at, entries_are}

-- ---- the fees
-- how fees are shared, told whether the collector is paid
abbrev pub shares_by : State → Key → FeeSplit → Bool → Shares
shares_by s collector split b = cond b
    (record { accounts = put s collector (more (at s collector) split.rest); burned = split.burned; collected = split.rest })
    (record { accounts = s; burned = split.burned + split.rest; collected = 0 })

shared_all : (s : State) (collector : Key) (split : FeeSplit) → (share s collector split).burned + (share s collector split).collected ≡ split.burned + split.rest
shared_all s collector split = by_test (not (split.rest == 0) && may_collect collector (more (at s collector) split.rest))
  where
    by_test : (b : Bool) → (shares_by s collector split b).burned + (shares_by s collector split b).collected ≡ split.burned + split.rest
    by_test true = refl
    by_test false = omega arith

split_all : (base priority : ℕ) → (split_of base priority).burned + (split_of base priority).rest ≡ base + priority
split_all base priority = omega arith

fees_all : (wires : List (List ℕ)) (order : List Chosen) (outcomes : List Outcome) → length outcomes ≡ length order
    → fees_in (entries_of wires order outcomes) ≡ base_fees outcomes + priority_fees outcomes
fees_all wires [] [] count = refl
fees_all wires [] (o ∷ os) count = absurd (omega (arith, count))
fees_all wires (t ∷ ts) [] count = absurd (omega (arith, count))
fees_all wires (t ∷ ts) (o ∷ os) count =
    let one = sum_by-cons (λ (entry : Entry). entry.fee) (entry_of wires (t, o)) (entries_of wires ts os) in
    let base = sum_by-cons (λ (outcome : Outcome). outcome.base_paid) o os in
    let priority = sum_by-cons (λ (outcome : Outcome). outcome.priority_paid) o os in
    let others = fees_all wires ts os (omega (arith, count)) in
    omega (arith, one, base, priority, others)

pub fees_are_shared : FeesAreShared
unfolding block_result closed serial_run share_fees
fees_are_shared s batch =
    let order = order_of s batch in
    let job = job_of (told_in s batch.slot order) in
    let run = serial_run s batch.slot order in
    shared_all run.accounts batch.collector (split_of (base_fees run.outcomes) (priority_fees run.outcomes))
    ∙ split_all (base_fees run.outcomes) (priority_fees run.outcomes)
    ∙ sym (fees_all batch.wires order run.outcomes (length-map-range_with_len (result job (at s.accounts)) 0 (length order)))

-- ---- the units that were used
-- each outcome has no more units than the budget of its transaction
abbrev AreWithin : List Chosen → List Outcome → Type 0
AreWithin [] os = Unit {0}
AreWithin (t ∷ ts) [] = Unit {0}
AreWithin (t ∷ ts) (o ∷ os) = (o.units ≤ t.budget.limit) × AreWithin ts os

within_from : (f : ℕ → Outcome) (order : List Chosen) (a : ℕ) → ((i : ℕ) (t : Chosen) → slice_get order i ≡ Some t → (f (a + i)).units ≤ t.budget.limit)
    → AreWithin order (map f (range_with_len a (length order)))
within_from f [] a each = tt
within_from f (t ∷ ts) a each =
    let first : a + 0 ≡ a = omega arith in (
      subst (λ n. (f n).units ≤ t.budget.limit) first (each 0 t refl),
      within_from f ts (a + 1) (λ i u there. let same : a + suc i ≡ (a + 1) + i = omega arith in subst (λ n. (f n).units ≤ u.budget.limit) same (each (suc i) u there)),
    )

within_all : (wires : List (List ℕ)) (order : List Chosen) (outcomes : List Outcome) → AreWithin order outcomes → units_in (entries_of wires order outcomes) ≤ units_of order
within_all wires [] outcomes within = omega arith
within_all wires (t ∷ ts) [] within = omega arith
within_all wires (t ∷ ts) (o ∷ os) within =
    let one = sum_by-cons (λ (entry : Entry). entry.units) (entry_of wires (t, o)) (entries_of wires ts os) in
    let most = sum_by-cons (λ (chosen : Chosen). chosen.budget.limit) t ts in
    let here = within.0 in
    let others = within_all wires ts os within.1 in
    omega (arith, one, most, here, others)

within_key : (key : Key) (wires : List (List ℕ)) (order : List Chosen) (outcomes : List Outcome) → AreWithin order outcomes
    → units_in (writers_of key order (entries_of wires order outcomes)) ≤ units_on key order
within_key key wires [] outcomes within = omega arith
within_key key wires (t ∷ ts) [] within = omega arith
within_key key wires (t ∷ ts) (o ∷ os) within =
    by_case (filter (λ (e : Chosen × Entry). may_write_key key e.0) (zip ts (entries_of wires ts os))) (may_write_key key t) (within_key key wires ts os within.1)
  where
    by_case : (rest : List (Chosen × Entry)) (b : Bool) → units_in (map (λ (e : Chosen × Entry). e.1) rest) ≤ units_of (filter (may_write_key key) ts)
        → units_in (map (λ (e : Chosen × Entry). e.1) (cond b ((t, entry_of wires (t, o)) ∷ rest) rest)) ≤ units_of (cond b (t ∷ filter (may_write_key key) ts) (filter (may_write_key key) ts))
    by_case rest true others =
        let one = sum_by-cons (λ (entry : Entry). entry.units) (entry_of wires (t, o)) (map (λ (e : Chosen × Entry). e.1) rest) in
        let most = sum_by-cons (λ (chosen : Chosen). chosen.budget.limit) t (filter (may_write_key key) ts) in
        let here = within.0 in
        omega (arith, one, most, here, others)
    by_case rest false others = others

-- ---- the budgets
-- the units of transactions are within the limits
record AreLimited (limits : Limits) (order : List Chosen) : Type 0 where
  all : units_of order ≤ limits.block_units
  each : (key : Key) → units_on key order ≤ limits.key_units

none_limited : (limits : Limits) → AreLimited limits []
none_limited limits = record { all = omega arith; each = λ key. omega arith }

not_above : (most n : ℕ) → nat_lt most n ≡ false → n ≤ most
not_above most n e = grind (arith, nat_tests)

-- a key that one may write is not passed
key_within : (limits : Limits) (order : List Chosen) (units : ℕ) (key : Key) (locks : List Lock)
    → list_any (λ (lock : Lock). lock.write && nat_lt limits.key_units (units_on lock.key order + units)) locks ≡ false
    → locks_write locks key ≡ true → units_on key order + units ≤ limits.key_units
key_within limits order units key [] none writes = absurd (cc)
key_within limits order units key (l ∷ ls) none writes =
    go l.write (same_key l.key key) refl (nat_lt limits.key_units (units_on l.key order + units)) refl
    (list_any (λ (lock : Lock). lock.write && nat_lt limits.key_units (units_on lock.key order + units)) ls) refl none writes (key_within limits order units key ls)
  where
    go : (w b : Bool) → same_key l.key key ≡ b → (p : Bool) → nat_lt limits.key_units (units_on l.key order + units) ≡ p → (r : Bool)
        → list_any (λ (lock : Lock). lock.write && nat_lt limits.key_units (units_on lock.key order + units)) ls ≡ r
        → ((w && p) || r) ≡ false → ((w && b) || locks_write ls key) ≡ true
        → (list_any (λ (lock : Lock). lock.write && nat_lt limits.key_units (units_on lock.key order + units)) ls ≡ false → locks_write ls key ≡ true
        → units_on key order + units ≤ limits.key_units) → units_on key order + units ≤ limits.key_units
    go true true same true passed r others none writes rest = absurd (cc)
    go true true same false passed r others none writes rest =
        subst (λ (k : Key). units_on k order + units ≤ limits.key_units) (same_key-true l.key key same) (not_above limits.key_units (units_on l.key order + units) passed)
    go true false same true passed r others none writes rest = absurd (cc)
    go true false same false passed r others none writes rest = rest (others ∙ none) writes
    go false b same p passed r others none writes rest = rest (others ∙ none) writes

one_limited : (limits : Limits) (order : List Chosen) (one : Chosen) → late limits order one ≡ None → AreLimited limits order → AreLimited limits (order ++ one ∷ [])
one_limited limits order one fits is =
    go (nat_lt limits.block_units (units_of order + one.budget.limit)) refl (passes_key_units limits order one) refl fits
  where
    on_key : (key : Key) (b : Bool) → locks_write one.locks key ≡ b → passes_key_units limits order one ≡ false
        → units_on key order + (if b then one.budget.limit else 0) ≤ limits.key_units
    on_key key true writes none = key_within limits order one.budget.limit key one.locks none writes
    on_key key false writes none = let each = is.each key in omega (arith, each)

    go : (b : Bool) → nat_lt limits.block_units (units_of order + one.budget.limit) ≡ b → (p : Bool) → passes_key_units limits order one ≡ p
        → (if b then Some BlockUnits else if p then Some KeyUnits else None) ≡ None → AreLimited limits (order ++ one ∷ [])
    go true above p passes e = absurd (cc)
    go false above true passes e = absurd (cc)
    go false above false passes e = record {
      all = let within = not_above limits.block_units (units_of order + one.budget.limit) above in let more_units = units_more order one in omega (arith, within, more_units);
      each = λ key. let within = on_key key (locks_write one.locks key) refl passes in let more_units = units_on_more key order one in omega (arith, within, more_units);
    }

walked_limited : (limits : Limits) (before : Walk) (line : List Chosen) → AreLimited limits before.order
    → AreLimited limits (fold (λ (before : Walk) (one : Chosen). walk_with before one (late limits before.order one)) before line).order
walked_limited limits before [] is = is
walked_limited limits before (one ∷ others) is = walked_limited limits (walk_with before one (late limits before.order one)) others (go (late limits before.order one) refl)
  where
    go : (o : Option Refusal) → late limits before.order one ≡ o → AreLimited limits (walk_with before one o).order
    go None e = one_limited limits before.order one e is
    go (Some cause) e = is

admitted_limited : (start : Start) (wires : List (List ℕ)) → AreLimited start.limits (admitted start wires).order
unfolding admitted
admitted_limited start wires = walked_limited start.limits (record { order = []; refused = [] }) (line (sifted_out start (map parsed_of wires))) (none_limited start.limits)

-- ---- the block
units_at : (told : AdmittedBlock) (start : State) (n i : ℕ) (t : Chosen) → n ≡ i → slice_get told.chosen i ≡ Some t → IsChosen t → (result (job_of told) (at start) n).units ≤ t.budget.limit
units_at told start n i t same there fits =
    let vs : List Account = map (serial (job_of told) (at start) n) (lock_keys (locks_at (slice_get told.chosen n))) in
    let here : slice_get told.chosen n ≡ Some t = ap (slice_get told.chosen) same ∙ there in
    subst (λ (o : Option Chosen). (effects_at (block_of told) o vs).outcome.units ≤ t.budget.limit) (sym here) (transaction_outcome (block_of told) t vs fits).units

units_within : (s : Snapshot) (batch : Batch) → CanRun s batch.wires → AreWithin (order_of s batch) (serial_outcomes (job_of (told_in s batch.slot (order_of s batch))) (at s.accounts))
units_within s batch runs =
    let order : List Chosen = order_of s batch in
    let told : AdmittedBlock = told_in s batch.slot order in
    within_from (result (job_of told) (at s.accounts)) order 0
    (λ i t there. units_at told s.accounts (0 + i) i t (omega arith) there (all_at IsChosen order i t (admitted_fit s batch runs) there))

pub units_are_within_limits : UnitsAreWithinLimits
units_are_within_limits s batch runs =
    let order = order_of s batch in
    let outcomes = serial_outcomes (job_of (told_in s batch.slot order)) (at s.accounts) in
    let within = units_within s batch runs in
    let limited = admitted_limited (start_in s) batch.wires in
    record {
      all = subst (λ (es : List Entry). units_in es ≤ s.limits.block_units) (sym (entries_are s batch))
          (omega (arith, within_all batch.wires order outcomes within, limited.all));
      each = λ key. subst (λ (es : List Entry). units_in (writers_of key order es) ≤ s.limits.key_units) (sym (entries_are s batch))
          (omega (arith, within_key key batch.wires order outcomes within, limited.each key));
    }
