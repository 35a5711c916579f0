-- How long a history is.
use Rattle.std.proofs.Common.{◌≡◌, ℕ, zero, suc, ◌+◌, ◌*◌, ◌<◌, ◌≤◌, Bool, true, false, cond, inl, inr, List, [], ◌∷◌, map, length, refl, sym, ◌∙◌, ap, ap₂, subst, arith}
use Rattle.std.specs.Prelude.{unwrap_or}
use Rattle.std.proofs.lemmas.Bool.{cases_eq}
use Rattle.std.proofs.lemmas.List.Sums.{sum_by-cons}
use Rattle.sol_base.specs.declared.key.Key.{Key}
use Rattle.sol_base.specs.declared.account.Account.{Account}
use Rattle.sol_base.specs.Accounts.{empty_account}
use Rattle.bank_law.specs.declared.event.Event.{Event}
use Rattle.bank_law.specs.declared.event.EventKind.{EventKind}
use Rattle.bank_law.specs.declared.event.EventKind.TheVariants.{Grant, Commit, Return}
use Rattle.bank_law.specs.Job.{Job, keys}
use Rattle.bank_law.specs.Machine.{Stage, waiting, held, done, State, is_waiting, is_held_by, is_held, is_done, loan, count_below, held_count, opening, MayCome, at_stage, after_event, changed_by, after, IsLegalFrom, Run}
use Rattle.bank_law.specs.Sound.{Sound}
use Rattle.bank_law.specs.History.{is_return, returns}
use Rattle.bank_law.specs.Laws.{HistoriesAreShort}
use Rattle.bank_law.proofs.Stages.{at_stage-same, at_stage-other, held_started}
use Rattle.bank_law.proofs.Events.{opening_sound, step_sound}

abbrev pub one_if : Bool → ℕ
one_if b = cond b 1 0

-- how many positions are done
abbrev done_count : Job → State → ℕ
done_count job s = count_below (λ i. is_done (s.stage i)) job.count

-- counts that agree below n
pub count-same : (p q : ℕ → Bool) (n : ℕ) → ((j : ℕ) → j < n → p j ≡ q j) → count_below p n ≡ count_below q n
count-same p q zero h = refl
count-same p q (suc n) h = ap₂ (λ b m. one_if b + m) (h n (omega arith)) (count-same p q n (λ j l. h j (omega arith)))

-- counts that differ at i alone
pub count-change : (p q : ℕ → Bool) (i n : ℕ) → i < n → ((j : ℕ) → (j ≡ i → ⊥) → p j ≡ q j) → count_below q n + one_if (p i) ≡ count_below p n + one_if (q i)
count-change p q i zero l h = absurd (omega arith)
count-change p q i (suc n) l h =
    elim (cases_eq n i) [
      | inl e ↦
          let same = count-same p q n (λ j u. h j (λ x. omega (arith, e, x, u))) in
          subst (λ m. (one_if (q n) + count_below q n) + one_if (p m) ≡ (one_if (p n) + count_below p n) + one_if (q m)) e (omega (arith, same))
      | inr d ↦
          let rest = count-change p q i n (omega arith) h in
          let same = ap one_if (h n d) in
          omega (arith, rest, same)
    ]

-- the counts after a position has changed
pub changed : (job : Job) (f : Stage → Bool) (s : ℕ → Stage) (i : ℕ) (x : Stage) → i < job.count
    → count_below (λ j. f (at_stage s i x j)) job.count + one_if (f (s i)) ≡ count_below (λ j. f (s j)) job.count + one_if (f x)
changed job f s i x l =
    count-change (λ j. f (s j)) (λ j. f (at_stage s i x j)) i job.count l
    (λ j n. sym (ap f (at_stage-other s i x j n)))
    ∙ ap (λ y. count_below (λ j. f (s j)) job.count + one_if (f y)) (at_stage-same s i x)

pub held_counts : (x : Stage) (lane : ℕ) → is_held_by lane x ≡ true → (one_if (is_held x) ≡ 1) × (one_if (is_done x) ≡ 0)
held_counts waiting lane h = absurd (cc)
held_counts (held other vs) lane h = (refl, refl)
held_counts (done o) lane h = absurd (cc)

pub waiting_counts : (x : Stage) → is_waiting x ≡ true → (one_if (is_held x) ≡ 0) × (one_if (is_done x) ≡ 0)
waiting_counts waiting h = (refl, refl)
waiting_counts (held other vs) h = absurd (cc)
waiting_counts (done o) h = absurd (cc)

-- two events for each done position, one for each held one, two for each return
one_step : (job : Job) (start : Key → Account) (s : State) (kind : EventKind) (lane i : ℕ) → Sound job start s → MayCome job s kind lane i
    → 1 + (2 * done_count job s + held_count job s) ≡ 2 * done_count job (changed_by job s kind lane i) + held_count job (changed_by job s kind lane i) + 2 * one_if (is_return kind)
one_step job start s Grant lane i S m =
    let now : Stage = held lane (map (λ key. unwrap_or (s.store key) empty_account) (keys job i)) in
    let a = changed job is_done s.stage i now m.0.below in
    let b = changed job is_held s.stage i now m.0.below in
    let c = waiting_counts (s.stage i) m.0.waits in
    omega (arith, a, b, c.0, c.1)
one_step job start s Commit lane i S m =
    let l = S.within i (held_started (s.stage i) lane m) in
    let now : Stage = done (job.effects i (loan (s.stage i))).outcome in
    let a = changed job is_done s.stage i now l in
    let b = changed job is_held s.stage i now l in
    let c = held_counts (s.stage i) lane m in
    omega (arith, a, b, c.0, c.1)
one_step job start s Return lane i S m =
    let l = S.within i (held_started (s.stage i) lane m) in
    let a = changed job is_done s.stage i waiting l in
    let b = changed job is_held s.stage i waiting l in
    let c = held_counts (s.stage i) lane m in
    omega (arith, a, b, c.0, c.1)

many_steps : (job : Job) (start : Key → Account) (s : State) (events : List Event) → Sound job start s → IsLegalFrom job s events
    → length events + (2 * done_count job s + held_count job s) ≡ 2 * done_count job (after job s events) + held_count job (after job s events) + 2 * returns events
many_steps job start s [] S l = omega arith
many_steps job start s (e ∷ es) S l =
    let one = one_step job start s e.kind e.lane e.position S l.0 in
    let rest = many_steps job start (after_event job s e) es (step_sound job start s e.kind e.lane e.position S l.0) l.1 in
    let more = sum_by-cons (λ (event : Event). one_if (is_return event.kind)) e es in
    omega (arith, one, rest, more)

none_below : (n : ℕ) → count_below (λ i. false) n ≡ 0
none_below zero = refl
none_below (suc n) = let rest = none_below n in omega (arith, rest)

done_or_held : (f : ℕ → Stage) (n : ℕ) → count_below (λ i. is_done (f i)) n + count_below (λ i. is_held (f i)) n ≤ n
done_or_held f zero = omega arith
done_or_held f (suc n) = by_case (f n) (done_or_held f n)
  where
    by_case : (x : Stage) → count_below (λ i. is_done (f i)) n + count_below (λ i. is_held (f i)) n ≤ n
        → (one_if (is_done x) + count_below (λ i. is_done (f i)) n) + (one_if (is_held x) + count_below (λ i. is_held (f i)) n) ≤ suc n
    by_case waiting rest = omega arith
    by_case (held lane vs) rest = omega arith
    by_case (done o) rest = omega arith

pub short : HistoriesAreShort
short job start events l =
    let exact = many_steps job start (opening start) events (opening_sound job start) l in
    let none = none_below job.count in
    let most = done_or_held (λ i. (Run job start events).stage i) job.count in
    omega (arith, exact, none, most)
