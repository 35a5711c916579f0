-- How many positions are held.
use Rattle.std.proofs.Common.{◌≡◌, ℕ, zero, suc, ◌+◌, ◌<◌, ◌≤◌, Bool, true, false, inl, inr, List, [], ◌∷◌, map, refl, sym, ap, subst, arith}
use Rattle.std.specs.Prelude.{unwrap_or}
use Rattle.std.proofs.lemmas.Bool.{cases_eq}
use Rattle.sol_base.specs.declared.key.Key.{Key}
use Rattle.sol_base.specs.declared.account.Account.{Account}
use Rattle.sol_base.specs.Accounts.{empty_account}
use Rattle.bank_law.specs.declared.event.Event.{Event}
use Rattle.bank_law.specs.declared.event.EventKind.TheVariants.{Grant, Commit, Return}
use Rattle.bank_law.specs.Job.{Job, keys}
use Rattle.bank_law.specs.Machine.{Stage, waiting, held, done, State, is_held_by, is_held, is_done, loan, opening, Ready, NothingHeld, count_below, held_count, with_event, Run, IsLegal}
use Rattle.bank_law.specs.Sound.{Sound}
use Rattle.bank_law.specs.Laws.{GrantsAddOne, EndsTakeOne, FewAreHeld, NoneLeftIsAllDone}
use Rattle.bank_law.proofs.Stages.{held_started}
use Rattle.bank_law.proofs.Events.{run_sound}
use Rattle.bank_law.proofs.Ends.{some_ready}
use Rattle.bank_law.proofs.Journals.{after_push, legal_parts}
use Rattle.bank_law.proofs.Counts.{one_if, changed, held_counts, waiting_counts}

one_if_most : (b : Bool) → one_if b ≤ 1
one_if_most true = omega arith
one_if_most false = omega arith

-- no more pass than there are numbers
pub count_below-most : (test : ℕ → Bool) (n : ℕ) → count_below test n ≤ n
count_below-most test zero = omega arith
count_below-most test (suc n) =
    let rest = count_below-most test n in
    let one = one_if_most (test n) in
    omega (arith, rest, one)

-- one that passes counts
pub count_below-some : (test : ℕ → Bool) (i n : ℕ) → i < n → test i ≡ true → 1 ≤ count_below test n
count_below-some test i zero l h = absurd (omega arith)
count_below-some test i (suc n) l h =
    elim (cases_eq n i) [
      | inl e ↦ let here = ap one_if (subst (λ m. test m ≡ true) (sym e) h) in omega (arith, here)
      | inr d ↦ let rest = count_below-some test i n (omega (arith, l, d)) h in omega (arith, rest)
    ]

-- where there is a count, a number passes
pub some_passes : (test : ℕ → Bool) (n : ℕ) → 1 ≤ count_below test n → (i : ℕ) × (i < n) × (test i ≡ true)
some_passes test zero h = absurd (omega arith)
some_passes test (suc n) h = by_case (test n) refl (some_passes test n)
  where
    by_case : (b : Bool) → test n ≡ b → (1 ≤ count_below test n → (i : ℕ) × (i < n) × (test i ≡ true)) → (i : ℕ) × (i < suc n) × (test i ≡ true)
    by_case true e more = (n, omega arith, e)
    by_case false e more =
        let here = ap one_if e in
        let rest = more (omega (arith, h, here)) in
        (rest.0, (let l = rest.1 in omega arith), rest.2)

pub held_is : (x : Stage) (lane : ℕ) → is_held_by lane x ≡ true → is_held x ≡ true
held_is waiting lane h = absurd (cc)
held_is (held other vs) lane h = refl
held_is (done o) lane h = absurd (cc)

-- how many are held once a ready position is granted
pub granted_count : (job : Job) (start : Key → Account) (events : List Event) (lane i : ℕ) → Ready job (Run job start events) i
    → held_count job (Run job start (with_event events Grant lane i)) ≡ held_count job (Run job start events) + 1
granted_count job start events lane i r =
    let s : State = Run job start events in
    let now : Stage = held lane (map (λ key. unwrap_or (s.store key) empty_account) (keys job i)) in
    let grown = ap (held_count job) (after_push job (opening start) events (record { kind = Grant; lane = lane; position = i })) in
    let a = changed job is_held s.stage i now r.below in
    let b = (waiting_counts (s.stage i) r.waits).0 in
    omega (arith, grown, a, b)

module _ (job : Job) (start : Key → Account) (events : List Event) (lane i : ℕ) (l : IsLegal job start events) (h : is_held_by lane ((Run job start events).stage i) ≡ true) where
  abbrev s : State
  s = Run job start events

  held_within : i < job.count
  held_within = (run_sound job start events l).within i (held_started (s.stage i) lane h)

  counted : one_if (is_held (s.stage i)) ≡ 1
  counted = (held_counts (s.stage i) lane h).0

  -- and once a held one is taken, or goes back
  pub committed_count : held_count job (Run job start (with_event events Commit lane i)) + 1 ≡ held_count job (Run job start events)
  committed_count =
      let grown = ap (held_count job) (after_push job (opening start) events (record { kind = Commit; lane = lane; position = i })) in
      let a = changed job is_held s.stage i (done (job.effects i (loan (s.stage i))).outcome) held_within in
      let b = counted in
      omega (arith, grown, a, b)

  pub returned_count : held_count job (Run job start (with_event events Return lane i)) + 1 ≡ held_count job (Run job start events)
  returned_count =
      let grown = ap (held_count job) (after_push job (opening start) events (record { kind = Return; lane = lane; position = i })) in
      let a = changed job is_held s.stage i waiting held_within in
      let b = counted in
      omega (arith, grown, a, b)

pub grants_add : GrantsAddOne
grants_add job start events lane i l =
    let parts = legal_parts job (opening start) events (record { kind = Grant; lane = lane; position = i } ∷ []) l in
    granted_count job start events lane i parts.1.0.0

pub commits_take : EndsTakeOne Commit
commits_take job start events lane i l =
    let parts = legal_parts job (opening start) events (record { kind = Commit; lane = lane; position = i } ∷ []) l in
    committed_count job start events lane i parts.0 parts.1.0

pub returns_take : EndsTakeOne Return
returns_take job start events lane i l =
    let parts = legal_parts job (opening start) events (record { kind = Return; lane = lane; position = i } ∷ []) l in
    returned_count job start events lane i parts.0 parts.1.0

pub few_held : FewAreHeld
few_held job s = count_below-most (λ i. is_held (s.stage i)) job.count

-- where none is counted, nothing is held
pub nothing_held : (job : Job) (start : Key → Account) (events : List Event) → IsLegal job start events → held_count job (Run job start events) ≡ 0 → NothingHeld (Run job start events)
nothing_held job start events legal nil lane i = by_held (is_held_by lane (s.stage i)) refl
  where
    s : State
    s = Run job start events

    by_held : (b : Bool) → is_held_by lane (s.stage i) ≡ b → b ≡ false
    by_held false e = refl
    by_held true e =
        let R : Sound job start s = run_sound job start events legal in
        let below = R.within i (held_started (s.stage i) lane e) in
        let some = count_below-some (λ j. is_held (s.stage j)) i job.count below (held_is (s.stage i) lane e) in
        absurd (omega (arith, some, nil))

-- where none is ready and none is held, all are done
pub none_left : NoneLeftIsAllDone
none_left job start events legal none nil j l = by_case (is_done (s.stage j)) refl
  where
    s : State
    s = Run job start events

    by_case : (b : Bool) → is_done (s.stage j) ≡ b → b ≡ true
    by_case true e = refl
    by_case false e = let r = some_ready job s (nothing_held job start events legal nil) j l e in absurd (none r.0 r.1)
