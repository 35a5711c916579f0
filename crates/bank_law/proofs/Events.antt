-- Each event keeps soundness.
use Rattle.std.proofs.Common.{◌≡◌, ℕ, zero, suc, ◌<◌, ◌≤◌, true, false, not, ◌&&◌, inl, inr, List, [], ◌∷◌, map, length, take, Option, Some, None, MatchOption, refl, sym, ◌∙◌, ap, subst, arith, eq-eqb}
use Rattle.std.specs.Prelude.{unwrap_or}
use Rattle.std.proofs.lemmas.Bool.{both_ways, cond_both, cond-true, cases_eq, cases_order}
use Rattle.std.proofs.lemmas.List.{take_all}
use Rattle.sol_base.specs.declared.key.Key.{Key}
use Rattle.sol_base.specs.declared.account.Account.{Account}
use Rattle.sol_base.specs.Accounts.{empty_account}
use Rattle.bank_law.specs.declared.event.Event.{Event}
use Rattle.bank_law.specs.declared.event.EventKind.{EventKind}
use Rattle.bank_law.specs.declared.event.EventKind.TheVariants.{Grant, Commit, Return}
use Rattle.bank_law.specs.Job.{Job, JobEffects, keys, write_keys, declares, writes, beside}
use Rattle.bank_law.specs.Serial.{serial}
use Rattle.bank_law.specs.Machine.{Stage, waiting, held, done, State, is_waiting, is_held_by, is_done, loan, opening, conflict, Ready, MayCome, at_stage, grant, commit, return, after_event, changed_by, after, IsLegalFrom, IsLegal, Run}
use Rattle.bank_law.specs.Sound.{will_write, due, IsLent, Agrees, Sound}
use Rattle.bank_law.specs.Laws.{EveryLegalHistoryIsSound}
use Rattle.bank_law.proofs.Keys.{beside-map, map-same, written_declared, clash-first, clash-second}
use Rattle.bank_law.proofs.Pending.{due-at, due-same}
use Rattle.bank_law.proofs.Stages.{at_cases, at_stage-same, at_stage-other, waiting_undone, waiting_unheld, held_undone, done_started, held_started, not_done}

-- by cases of what a store has
by_store : {A : Type 0} (P Q : Type 0) (F G : A → Type 0) (o : Option A) → (P → Q) → ((v : A) → F v → G v) → MatchOption o P F → MatchOption o Q G
by_store P Q F G None p f m = p m
by_store P Q F G (Some v) p f m = f v m

-- what is lent for writing to another position than the one that changes
lent_stays : (job : Job) (s : State) (i : ℕ) (now : Stage) (store : Key → Option Account) (key : Key) (v u : Account) → v ≡ u → (l : IsLent job s key v) → (l.position ≡ i → ⊥)
    → IsLent job (record { stage = at_stage s.stage i now; store = store }) key u
lent_stays job s i now store key v u e l n =
    let other = at_stage-other s.stage i now l.position n in
    record {
      position = l.position;
      lane = l.lane;
      holds = ap (is_held_by l.lane) other ∙ l.holds;
      written = l.written;
      value = ap (λ x. beside key (keys job l.position) (loan x)) other ∙ (l.value ∙ e);
    }

-- what a ready position declares is lent to nobody
not_lent : (job : Job) (start : Key → Account) (s : State) (i : ℕ) → Sound job start s → Ready job s i → (key : Key) → declares job i key ≡ true → (v : Account) → IsLent job s key v → ⊥
not_lent job start s i S r key d v l =
    let j = l.position in
    elim (cases_order i j) [
      | inl e ↦ let e : i ≡ j = e in waiting_unheld (s.stage j) l.lane (subst (λ n. is_waiting (s.stage n) ≡ true) e r.waits) l.holds
      | inr (inl u) ↦ waiting_undone (s.stage i) r.waits (S.earlier j i (held_started (s.stage j) l.lane l.holds) u (clash-second (job.locks i) (job.locks j) key d l.written))
      | inr (inr u) ↦ held_undone (s.stage j) l.lane l.holds (r.earlier j u (clash-first (job.locks j) (job.locks i) key l.written d))
    ]

-- what a ready position declares is in the store
pub ready_there : (job : Job) (start : Key → Account) (s : State) (i : ℕ) → Sound job start s → Ready job s i → (key : Key) → declares job i key ≡ true → s.store key ≡ Some (due job start s key)
ready_there job start s i S r key d = by_case (s.store key) (S.values key)
  where
    by_case : (o : Option Account) → MatchOption o (IsLent job s key (due job start s key)) (λ v. v ≡ due job start s key) → o ≡ Some (due job start s key)
    by_case (Some v) m = ap Some m
    by_case None m = absurd (not_lent job start s i S r key d _ m)

available : (job : Job) (start : Key → Account) (s : State) (i : ℕ) → Sound job start s → Ready job s i
    → (key : Key) → declares job i key ≡ true → unwrap_or (s.store key) empty_account ≡ due job start s key
available job start s i S r key d = ap (λ o. unwrap_or o empty_account) (ready_there job start s i S r key d)

-- what is due of a key that a position declares is what its turn in the serial run has, where the position is not done and each earlier conflicting one is
turn : (job : Job) (start : Key → Account) (s : State) (i : ℕ) → Sound job start s → i < job.count
    → (is_done (s.stage i) ≡ true → ⊥)
    → ((j : ℕ) → j < i → conflict job j i ≡ true → is_done (s.stage j) ≡ true) → (key : Key)
    → declares job i key ≡ true → due job start s key ≡ serial job start i key
turn job start s i S l undone before key d =
    due-at job start s key i (omega arith) (λ j u wr. before j u (clash-first (job.locks j) (job.locks i) key wr d)) none
  where
    none : (j : ℕ) → i ≤ j → writes job j key ≡ true → is_done (s.stage j) ≡ true → ⊥
    none j u wr dn =
        elim (cases_eq i j) [
          | inl e ↦ undone (subst (λ n. is_done (s.stage n) ≡ true) (sym e) dn)
          | inr n ↦ undone (S.earlier j i (done_started (s.stage j) dn) (omega arith) (clash-second (job.locks i) (job.locks j) key d wr))
        ]

-- what a held position was lent
pub loan_agrees : (job : Job) (start : Key → Account) (i lane : ℕ) (x : Stage) → is_held_by lane x ≡ true → Agrees job start i x → loan x ≡ map (serial job start i) (keys job i)
loan_agrees job start i lane waiting h a = absurd (cc)
loan_agrees job start i lane (held other vs) h a = a
loan_agrees job start i lane (done o) h a = absurd (cc)

pub grant_sound : (job : Job) (start : Key → Account) (s : State) (lane i : ℕ) → Sound job start s → Ready job s i → Sound job start (grant job s lane i)
grant_sound job start s lane i S r = record {
  within = at_cases (λ j x. is_waiting x ≡ false → j < job.count) s.stage i now (λ h. r.below) (λ j n h. S.within j h);
  earlier = at_cases (λ j x. (m : ℕ) → is_waiting x ≡ false → m < j → conflict job m j ≡ true → is_done (t.stage m) ≡ true) s.stage i now
      (λ m h u c. same_done m ∙ r.earlier m u c) (λ j n m h u c. same_done m ∙ S.earlier j m h u c);
  values = λ key. cond_both (writes job i key) None (s.store key) (λ o. MatchOption o (IsLent job t key (due job start t key)) (λ v. v ≡ due job start t key))
      (λ wr. record {
        position = i;
        lane = lane;
        holds = ap (is_held_by lane) (at_stage-same s.stage i now) ∙ eq-eqb lane lane refl;
        written = wr;
        value = ap (λ x. beside key (keys job i) (loan x)) (at_stage-same s.stage i now)
            ∙ (beside-map at_hand key (keys job i) (written_declared (job.locks i) key wr)
            ∙ (available job start s i S r key (written_declared (job.locks i) key wr) ∙ sym (same_due key)));
      })
      (λ e. by_store _ _ _ _ (s.store key)
      (λ l. lent_stays job s i now t.store key _ _ (sym (same_due key)) l (λ q. waiting_unheld (s.stage i) l.lane r.waits (subst (λ m. is_held_by l.lane (s.stage m) ≡ true) q l.holds)))
      (λ v q. q ∙ sym (same_due key)) (S.values key));
  agrees = at_cases (λ j x. Agrees job start j x) s.stage i now
      (map-same at_hand (serial job start i) (keys job i) (λ key d. available job start s i S r key d ∙ turn job start s i S r.below (waiting_undone (s.stage i) r.waits) r.earlier key d))
      (λ j n. S.agrees j);
}
  where
    at_hand : Key → Account
    at_hand key = unwrap_or (s.store key) empty_account

    t : State
    t = grant job s lane i

    now : Stage
    now = held lane (map at_hand (keys job i))

    same_done : (j : ℕ) → is_done (t.stage j) ≡ is_done (s.stage j)
    same_done = at_cases (λ j x. is_done x ≡ is_done (s.stage j)) s.stage i now (sym (not_done (s.stage i) (waiting_undone (s.stage i) r.waits))) (λ j n. refl)

    same_due : (key : Key) → due job start t key ≡ due job start s key
    same_due key = due-same job start s t key (λ j. ap (λ b. writes job j key && not b) (same_done j))

-- only the keys that i writes are due anew, and no done position writes them from i to the next that will
pub commit_sound : (job : Job) (start : Key → Account) (s : State) (lane i : ℕ) → Sound job start s → is_held_by lane (s.stage i) ≡ true → Sound job start (commit job s i)
commit_sound job start s lane i S h = record {
  within = at_cases (λ j x. is_waiting x ≡ false → j < job.count) s.stage i now (λ e. below) (λ j n e. S.within j e);
  earlier = at_cases (λ j x. (m : ℕ) → is_waiting x ≡ false → m < j → conflict job m j ≡ true → is_done (t.stage m) ≡ true) s.stage i now
      (λ m e u c. still_done m (S.earlier i m started u c)) (λ j n m e u c. still_done m (S.earlier j m e u c));
  values = λ key. cond_both (writes job i key) (Some (beside key (write_keys job i) effects.written))
      (s.store key) (λ o. MatchOption o (IsLent job t key (due job start t key)) (λ v. v ≡ due job start t key))
      (λ wr. put key wr ∙ sym (due_next key wr))
      (λ e. by_store _ _ _ _ (s.store key)
      (λ l. lent_stays job s i now t.store key _ _ (sym (same_due key e)) l (λ q. both_ways _ e (subst (λ m. writes job m key ≡ true) q l.written)))
      (λ v q. q ∙ sym (same_due key e)) (S.values key));
  agrees = at_cases (λ j x. Agrees job start j x) s.stage i now (ap (λ vs. (job.effects i vs).outcome) lent) (λ j n. S.agrees j);
}
  where
    effects : JobEffects
    effects = job.effects i (loan (s.stage i))

    t : State
    t = commit job s i

    now : Stage
    now = done (job.effects i (loan (s.stage i))).outcome

    started : is_waiting (s.stage i) ≡ false
    started = held_started (s.stage i) lane h

    below : i < job.count
    below = S.within i started

    lent : loan (s.stage i) ≡ map (serial job start i) (keys job i)
    lent = loan_agrees job start i lane (s.stage i) h (S.agrees i)

    still_done : (j : ℕ) → is_done (s.stage j) ≡ true → is_done (t.stage j) ≡ true
    still_done = at_cases (λ j x. is_done (s.stage j) ≡ true → is_done x ≡ true) s.stage i now (λ d. refl) (λ j n d. d)

    was_done : (j : ℕ) → (j ≡ i → ⊥) → is_done (t.stage j) ≡ true → is_done (s.stage j) ≡ true
    was_done = at_cases (λ j x. (j ≡ i → ⊥) → is_done x ≡ true → is_done (s.stage j) ≡ true) s.stage i now (λ n d. absurd (n refl)) (λ j n m d. d)

    now_done : is_done (t.stage i) ≡ true
    now_done = ap is_done (at_stage-same s.stage i now)

    due_next : (key : Key) → writes job i key ≡ true → due job start t key ≡ serial job start (suc i) key
    due_next key wr = due-at job start t key (suc i) (omega (arith, below))
        (λ j u wj. elim (cases_eq j i) [
          | inl e ↦ subst (λ n. is_done (t.stage n) ≡ true) (sym e) now_done
          | inr n ↦ still_done j (S.earlier i j started (omega arith) (clash-first (job.locks j) (job.locks i) key wj (written_declared (job.locks i) key wr)))
        ])
        (λ j u wj d.
        let n : j ≡ i → ⊥ = λ e. omega arith in
        held_undone (s.stage i) lane h
        (S.earlier j i (done_started (s.stage j) (was_done j n d)) (omega arith)
        (clash-first (job.locks i) (job.locks j) key wr (written_declared (job.locks j) key wj))))

    put : (key : Key) → writes job i key ≡ true → beside key (write_keys job i) (job.effects i (loan (s.stage i))).written ≡ serial job start (suc i) key
    put key wr = ap (λ vs. beside key (write_keys job i) (job.effects i vs).written) lent ∙ sym (cond-true (writes job i key) _ (serial job start i key) wr)

    same_due : (key : Key) → writes job i key ≡ false → due job start t key ≡ due job start s key
    same_due key e = due-same job start s t key
        (at_cases (λ j x. (writes job j key && not (is_done x)) ≡ will_write job s key j) s.stage i now (ap (λ b. b && not true) e ∙ sym (ap (λ b. b && not (is_done (s.stage i))) e)) (λ j n. refl))

pub return_sound : (job : Job) (start : Key → Account) (s : State) (lane i : ℕ) → Sound job start s → is_held_by lane (s.stage i) ≡ true → Sound job start (return job s i)
return_sound job start s lane i S h = record {
  within = at_cases (λ j x. is_waiting x ≡ false → j < job.count) s.stage i waiting (λ e. absurd (cc)) (λ j n e. S.within j e);
  earlier = at_cases (λ j x. (m : ℕ) → is_waiting x ≡ false → m < j → conflict job m j ≡ true → is_done (t.stage m) ≡ true) s.stage i waiting
      (λ m e u c. absurd (cc)) (λ j n m e u c. same_done m ∙ S.earlier j m e u c);
  values = λ key. cond_both (writes job i key) (Some (beside key (keys job i) (loan (s.stage i)))) (s.store key)
      (λ o. MatchOption o (IsLent job t key (due job start t key)) (λ v. v ≡ due job start t key))
      (λ wr.
      let d = written_declared (job.locks i) key wr in
      ap (beside key (keys job i)) lent
      ∙ (beside-map (serial job start i) key (keys job i) d
      ∙ sym (same_due key ∙ turn job start s i S (S.within i started) (held_undone (s.stage i) lane h)
      (λ j u c. S.earlier i j started u c) key d)))
      (λ e. by_store _ _ _ _ (s.store key)
      (λ l. lent_stays job s i waiting t.store key _ _ (sym (same_due key)) l (λ q. both_ways _ e (subst (λ m. writes job m key ≡ true) q l.written)))
      (λ v q. q ∙ sym (same_due key)) (S.values key));
  agrees = at_cases (λ j x. Agrees job start j x) s.stage i waiting tt (λ j n. S.agrees j);
}
  where
    t : State
    t = return job s i

    started : is_waiting (s.stage i) ≡ false
    started = held_started (s.stage i) lane h

    lent : loan (s.stage i) ≡ map (serial job start i) (keys job i)
    lent = loan_agrees job start i lane (s.stage i) h (S.agrees i)

    same_done : (j : ℕ) → is_done (t.stage j) ≡ is_done (s.stage j)
    same_done = at_cases (λ j x. is_done x ≡ is_done (s.stage j)) s.stage i waiting (sym (not_done (s.stage i) (held_undone (s.stage i) lane h))) (λ j n. refl)

    same_due : (key : Key) → due job start t key ≡ due job start s key
    same_due key = due-same job start s t key (λ j. ap (λ b. writes job j key && not b) (same_done j))

pub opening_sound : (job : Job) (start : Key → Account) → Sound job start (opening start)
opening_sound job start = record {
  within = λ i e. absurd (cc);
  earlier = λ i j e u c. absurd (cc);
  values = λ key. sym (due-at job start (opening start) key 0 (omega arith) (λ j u wr. absurd (omega arith)) (λ j u wr d. cc));
  agrees = λ i. tt;
}

pub step_sound : (job : Job) (start : Key → Account) (s : State) (kind : EventKind) (lane i : ℕ) → Sound job start s → MayCome job s kind lane i → Sound job start (changed_by job s kind lane i)
step_sound job start s Grant lane i S m = grant_sound job start s lane i S m.0
step_sound job start s Commit lane i S m = commit_sound job start s lane i S m
step_sound job start s Return lane i S m = return_sound job start s lane i S m

pub after_sound : (job : Job) (start : Key → Account) (s : State) (events : List Event) → Sound job start s → IsLegalFrom job s events → (n : ℕ) → Sound job start (after job s (take n events))
after_sound job start s events S l zero = S
after_sound job start s [] S l (suc n) = S
after_sound job start s (e ∷ es) S l (suc n) = after_sound job start (after_event job s e) es (step_sound job start s e.kind e.lane e.position S l.0) l.1 n

pub every_sound : EveryLegalHistoryIsSound
every_sound job start events l n = after_sound job start (opening start) events (opening_sound job start) l n

-- after the whole of a legal list the state is sound
pub run_sound : (job : Job) (start : Key → Account) (events : List Event) → IsLegal job start events → Sound job start (Run job start events)
run_sound job start events l = subst (λ es. Sound job start (Run job start es)) (take_all (length events) events (omega arith)) (every_sound job start events l (length events))
