-- Outcomes that are told before the end are those of the serial run.
use Rattle.std.proofs.Common.{◌≡◌, ℕ, zero, suc, ◌+◌, ◌-◌, ◌<◌, ◌≤◌, List, [], ◌∷◌, length, map, take, drop, get_or, Option, None, Some, refl, sym, ap, ap₂, ◌∙◌, arith}
use Rattle.std.specs.List.{range_with_len}
use Rattle.std.proofs.lemmas.List.{drop_more}
use Rattle.std.proofs.lemmas.List.FromFn.{get_or-map-range_with_len, length-map-range_with_len}
use Rattle.sol_base.specs.declared.key.Key.{Key}
use Rattle.sol_base.specs.declared.account.Account.{Account}
use Rattle.tx_report.specs.declared.outcome.Outcome.{Outcome}
use Rattle.bank_law.specs.declared.event.Event.{Event}
use Rattle.bank_law.specs.Job.{Job}
use Rattle.bank_law.specs.Serial.{result}
use Rattle.bank_law.specs.Machine.{Stage, waiting, held, done, IsLegal, Run}
use Rattle.bank_law.specs.Sound.{Agrees}
use Rattle.bank_law.proofs.Events.{run_sound}
use Rattle.prio_graph.specs.Ready.{Positions}
use Rattle.bank_core.specs.Slots.{Shared}
use Rattle.bank_core.specs.Keeping.{Keeps, outcome_of}
use Rattle.bank_core.specs.Ends.{serial_outcomes}
use Rattle.bank_core.specs.Told.{done_from, up_to_none}

-- a part of a list whose items a function gives
pub sliced : {X : Type 0} (xs : List (Option X)) (f : ℕ → Option X) (from most : ℕ) → from + most ≤ length xs
    → ((i : ℕ) → i < length xs → get_or xs i None ≡ f i)
    → take most (drop from xs) ≡ map f (range_with_len from most)
sliced xs f from zero within each = refl
sliced xs f from (suc most) within each =
    let below : from < length xs = omega (arith, within) in
    ap (take (suc most)) (drop_more xs from None below)
    ∙ ap₂ (◌∷◌) (each from below) (sliced xs f (from + 1) most (omega (arith, within)) each)

module _ (job : Job) (start : Key → Account) where
  -- the serial run from a position on
  serial_more : (from : ℕ) → from < job.count → drop from (serial_outcomes job start) ≡ result job start from ∷ drop (from + 1) (serial_outcomes job start)
  serial_more from below = drop_more (serial_outcomes job start) from (result job start from)
      (omega (arith, below, length-map-range_with_len (result job start) 0 job.count))
      ∙ ap (λ o. o ∷ drop (from + 1) (serial_outcomes job start))
      (get_or-map-range_with_len (result job start) 0 job.count from from (result job start from) below
      (omega arith))

  one_told : (from : ℕ) (x : Stage) (later : List (Option Outcome)) → Agrees job start from x → from < job.count
      → up_to_none later ≡ take (length (up_to_none later)) (drop (from + 1) (serial_outcomes job start))
      → up_to_none (outcome_of x ∷ later) ≡ take (length (up_to_none (outcome_of x ∷ later))) (drop from (serial_outcomes job start))
  one_told from waiting later agrees below rest = refl
  one_told from (held lane vs) later agrees below rest = refl
  one_told from (done o) later agrees below rest =
      ap₂ (◌∷◌) agrees rest ∙ sym (ap (take (suc (length (up_to_none later)))) (serial_more from below))

  pub told_serial : (events : List Event) → IsLegal job start events → (from most : ℕ) → from + most ≤ job.count
      → done_from (Run job start events).stage from most ≡ take (length (done_from (Run job start events).stage from most)) (drop from (serial_outcomes job start))
  told_serial events legal from zero within = refl
  told_serial events legal from (suc most) within =
      one_told from ((Run job start events).stage from)
      (map (λ i. outcome_of ((Run job start events).stage i)) (range_with_len (from + 1) most))
      ((run_sound job start events legal).agrees from) (omega (arith, within))
      (told_serial events legal (from + 1) most (omega (arith, within)))

  -- those of a core are copied from its list
  pub told_is : (ks : List Key) (p : Positions) (slots : List (Option Shared)) (outcomes : List (Option Outcome)) (journal : List Event) → Keeps job start ks p slots outcomes journal
      → (from most : ℕ) → from + most ≤ job.count → (listed : List (Option Outcome)) → listed ≡ outcomes
      → up_to_none (take (from + most - from) (drop from listed)) ≡ done_from (Run job start journal).stage from most
  told_is ks p slots outcomes journal K from most within listed same =
      let long = K.outcomes_length in
      ap (λ (os : List (Option Outcome)). up_to_none (take (from + most - from) (drop from os))) same
      ∙ ap (λ n. up_to_none (take n (drop from outcomes))) (omega arith)
      ∙ ap up_to_none (sliced outcomes (λ i. outcome_of ((Run job start journal).stage i)) from most (omega (arith, long, within)) (λ i l. K.kept i (omega (arith, long, l))))

-- no more are told than were asked for
up_to_none-few : (os : List (Option Outcome)) → length (up_to_none os) ≤ length os
up_to_none-few [] = omega arith
up_to_none-few (None ∷ os) = omega arith
up_to_none-few (Some o ∷ os) = let rest = up_to_none-few os in omega (arith, rest)

pub told_few : (stage : ℕ → Stage) (from most : ℕ) (told : List Outcome) → told ≡ done_from stage from most → length told ≤ most
told_few stage from most told is =
    let a = up_to_none-few (map (λ i. outcome_of (stage i)) (range_with_len from most)) in
    let b = length-map-range_with_len (λ i. outcome_of (stage i)) from most in
    let c = ap length is in
    omega (arith, a, b, c)
