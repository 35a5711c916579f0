-- Where a history can go on, and where it ends.
use Rattle.std.proofs.Common.{◌≡◌, ℕ, ◌<◌, Bool, true, false, not, inl, inr, List, [], ◌∷◌, Option, Some, None, MatchOption, refl, ◌∙◌, ap, subst, arith, eq-eqb}
use Rattle.std.proofs.lemmas.Bool.{both_ways, cases_lt, not-true, not-false}
use Rattle.sol_base.specs.declared.key.Key.{Key}
use Rattle.sol_base.specs.declared.account.Account.{Account}
use Rattle.bank_law.specs.declared.event.Event.{Event}
use Rattle.bank_law.specs.declared.event.EventKind.{EventKind}
use Rattle.bank_law.specs.declared.event.EventKind.TheVariants.{Grant, Commit, Return}
use Rattle.bank_law.specs.Job.{Job}
use Rattle.bank_law.specs.Serial.{serial, result}
use Rattle.bank_law.specs.Machine.{Stage, waiting, held, done, State, is_waiting, is_held_by, is_done, opening, MayCome, after_event, changed_by, after, IsLegalFrom, Run}
use Rattle.bank_law.specs.Sound.{least, will_write, first, due, IsLent, Agrees, Sound}
use Rattle.bank_law.specs.Laws.{SomePositionIsReady, AccountsEndSerial, OutcomesEndSerial, DoneStaysDone, AllDoneIsTheEnd}
use Rattle.bank_law.proofs.Pending.{least-before, least-at, least-le, first-ge}
use Rattle.bank_law.proofs.Stages.{at_stage-other, waiting_undone, held_started, held_undone}
use Rattle.bank_law.proofs.Events.{run_sound}
use Rattle.bank_law.proofs.Journals.{after-append, legal_parts}

waits : (x : Stage) → ((lane : ℕ) → is_held_by lane x ≡ false) → is_done x ≡ false → is_waiting x ≡ true
waits waiting h d = refl
waits (held lane vs) h d = absurd (both_ways _ (h lane) (eq-eqb lane lane refl))
waits (done o) h d = absurd (cc)

-- the least position that is not done is ready
pub some_ready : SomePositionIsReady
some_ready job s none j l undone = (
  i,
  record {
    below = below;
    waits = waits (s.stage i) (λ lane. none lane i) (not-true _ (least-at undone_at job.count below));
    earlier = λ m u c. before m u;
  },
)
  where
    undone_at : ℕ → Bool
    undone_at m = not (is_done (s.stage m))

    i : ℕ
    i = least undone_at job.count

    before : (m : ℕ) → m < i → is_done (s.stage m) ≡ true
    before m u = not-false _ (least-before undone_at job.count m u)

    below : i < job.count
    below =
        elim (cases_lt i job.count) [
          | inl u ↦ u
          | inr v ↦ absurd (both_ways _ undone (before j (omega arith)))
        ]

pub accounts_end : AccountsEndSerial
accounts_end job start events l all key = stored key (s.store key) (S.values key)
  where
    s : State
    s = Run job start events

    S : Sound job start s
    S = run_sound job start events l

    last : (key : Key) → first job s key ≡ job.count
    last key =
        let a = first-ge job s key job.count (omega arith) (λ j u wr. all j u) in
        let b = least-le (will_write job s key) job.count in
        omega arith

    stored : (key : Key) (o : Option Account) → MatchOption o (IsLent job s key (due job start s key)) (λ v. v ≡ due job start s key) → o ≡ Some (serial job start job.count key)
    stored key (Some v) m = ap Some (m ∙ ap (λ n. serial job start n key) (last key))
    stored key None m =
        absurd (held_undone (s.stage m.position) m.lane m.holds (all m.position (S.within m.position (held_started (s.stage m.position) m.lane m.holds))))

pub outcomes_end : OutcomesEndSerial
outcomes_end job start events l all i b =
    ended (s.stage i) i (all i b) ((run_sound job start events l).agrees i)
  where
    s : State
    s = Run job start events

    ended : (x : Stage) (i : ℕ) → is_done x ≡ true → Agrees job start i x → x ≡ done (result job start i)
    ended waiting i d a = absurd (cc)
    ended (held lane vs) i d a = absurd (cc)
    ended (done o) i d a = ap done a

-- an event changes no done position
one_stays : (job : Job) (s : State) (kind : EventKind) (lane i : ℕ) → MayCome job s kind lane i → (j : ℕ) → is_done (s.stage j) ≡ true → (changed_by job s kind lane i).stage j ≡ s.stage j
one_stays job s Grant lane i m j d = at_stage-other s.stage i (held lane _) j (λ e. waiting_undone (s.stage i) m.0.waits (subst (λ n. is_done (s.stage n) ≡ true) e d))
one_stays job s Commit lane i m j d = at_stage-other s.stage i (done _) j (λ e. held_undone (s.stage i) lane m (subst (λ n. is_done (s.stage n) ≡ true) e d))
one_stays job s Return lane i m j d = at_stage-other s.stage i waiting j (λ e. held_undone (s.stage i) lane m (subst (λ n. is_done (s.stage n) ≡ true) e d))

stays : (job : Job) (s : State) (events : List Event) → IsLegalFrom job s events → (j : ℕ) → is_done (s.stage j) ≡ true → (after job s events).stage j ≡ s.stage j
stays job s [] l j d = refl
stays job s (e ∷ es) l j d =
    let one = one_stays job s e.kind e.lane e.position l.0 j d in
    stays job (after_event job s e) es l.1 j (ap is_done one ∙ d) ∙ one

pub done_stays : DoneStaysDone
done_stays job start events more l i d =
    ap (λ (s : State). s.stage i) (after-append job (opening start) events more)
    ∙ stays job (Run job start events) more (legal_parts job (opening start) events more l).1 i d

-- where all are done, no event may come
no_event : (job : Job) (start : Key → Account) (s : State) (kind : EventKind) (lane i : ℕ) → Sound job start s → ((j : ℕ) → j < job.count → is_done (s.stage j) ≡ true) → MayCome job s kind lane i → ⊥
no_event job start s Grant lane i S all m = waiting_undone (s.stage i) m.0.waits (all i m.0.below)
no_event job start s Commit lane i S all m = held_undone (s.stage i) lane m (all i (S.within i (held_started (s.stage i) lane m)))
no_event job start s Return lane i S all m = held_undone (s.stage i) lane m (all i (S.within i (held_started (s.stage i) lane m)))

pub all_done_ends : AllDoneIsTheEnd
all_done_ends job start events more l all = let parts = legal_parts job (opening start) events more l in ended more parts.1
  where
    ended : (es : List Event) → IsLegalFrom job (Run job start events) es → es ≡ []
    ended [] m = refl
    ended (e ∷ es) m = absurd (no_event job start (Run job start events) e.kind e.lane e.position (run_sound job start events (legal_parts job (opening start) events more l).0) all m.0)
