-- A legal history to the end of each job: each position is granted and committed in its turn.
use Rattle.std.proofs.Common.{◌≡◌, ℕ, zero, suc, ◌<◌, ◌≤◌, true, false, inl, inr, List, [], refl, sym, ◌∙◌, ap, subst, arith}
use Rattle.std.specs.Prelude.{unwrap_or, map}
use Rattle.sol_base.specs.declared.key.Key.{Key}
use Rattle.sol_base.specs.declared.account.Account.{Account}
use Rattle.sol_base.specs.Accounts.{empty_account}
use Rattle.bank_law.specs.declared.event.Event.{Event}
use Rattle.bank_law.specs.declared.event.EventKind.TheVariants.{Grant, Commit}
use Rattle.bank_law.specs.Job.{Job, keys}
use Rattle.bank_law.specs.Machine.{Stage, waiting, held, done, State, is_waiting, is_held_by, is_done, opening, Ready, grant, commit, with_event, Run, IsLegal}
use Rattle.bank_law.specs.Laws.{EachJobCanEnd}
use Rattle.bank_law.proofs.Stages.{at_cases, at_stage-same}
use Rattle.bank_law.proofs.Journals.{after_push, legal_push}

-- the first n positions are done, and the others wait
record IsAt (n : ℕ) (s : State) : Type 0 where
  passed : (i : ℕ) → i < n → is_done (s.stage i) ≡ true
  waits : (i : ℕ) → n ≤ i → is_waiting (s.stage i) ≡ true

unheld : (x : Stage) (lane : ℕ) → is_waiting x ≡ true → is_held_by lane x ≡ false
unheld waiting lane h = refl
unheld (held other vs) lane h = absurd (cc)
unheld (done o) lane h = refl

done_unheld : (x : Stage) (lane : ℕ) → is_done x ≡ true → is_held_by lane x ≡ false
done_unheld waiting lane h = absurd (cc)
done_unheld (held other vs) lane h = absurd (cc)
done_unheld (done o) lane h = refl

module _ (job : Job) (start : Key → Account) where
  -- the first n positions, one after the other
  record Reaches (n : ℕ) : Type 0 where
    events : List Event
    legal : IsLegal job start events
    at : IsAt n (Run job start events)

  module _ (n : ℕ) (l : n < job.count) (R : Reaches n) where
    s : State
    s = Run job start R.events

    ready : Ready job (Run job start R.events) n
    ready = record { below = l; waits = R.at.waits n (omega arith); earlier = λ j u c. R.at.passed j u }

    free : (i : ℕ) → is_held_by 0 ((Run job start R.events).stage i) ≡ false
    free i = elim (Rattle.std.proofs.lemmas.Bool.cases_lt i n) [
      | inl u ↦ done_unheld _ 0 (R.at.passed i u)
      | inr v ↦ unheld _ 0 (R.at.waits i v)
    ]

    granted : IsLegal job start (with_event R.events Grant 0 n)
    granted = legal_push job (opening start) R.events (record { kind = Grant; lane = 0; position = n }) R.legal (ready, free)

    holds : is_held_by 0 ((Run job start (with_event R.events Grant 0 n)).stage n) ≡ true
    holds =
        ap (λ (t : State). is_held_by 0 (t.stage n)) (after_push job (opening start) R.events (record { kind = Grant; lane = 0; position = n }))
        ∙ ap (is_held_by 0) (at_stage-same (Run job start R.events).stage n (held 0 (map (λ key. unwrap_or ((Run job start R.events).store key) empty_account) (keys job n))))

    abbrev lent : State
    lent = grant job (Run job start R.events) 0 n

    ends : Run job start (with_event (with_event R.events Grant 0 n) Commit 0 n) ≡ commit job (grant job (Run job start R.events) 0 n) n
    ends =
        after_push job (opening start) (with_event R.events Grant 0 n) (record { kind = Commit; lane = 0; position = n })
        ∙ ap (λ t. commit job t n) (after_push job (opening start) R.events (record { kind = Grant; lane = 0; position = n }))

    at_next : IsAt (suc n) (commit job (grant job (Run job start R.events) 0 n) n)
    at_next = record {
      passed = at_cases (λ i x. i < suc n → is_done x ≡ true) lent.stage n (done _) (λ u. refl)
          (λ i d u. at_cases (λ j x. (j ≡ n → ⊥) → j < suc n → is_done x ≡ true) (Run job start R.events).stage n (held 0 _)
          (λ m v. absurd (m refl)) (λ j d m v. R.at.passed j (omega (arith, d, v))) i d u);
      waits = at_cases (λ i x. suc n ≤ i → is_waiting x ≡ true) lent.stage n (done _) (λ u. absurd (omega arith))
          (λ i d u. at_cases (λ j x. (j ≡ n → ⊥) → suc n ≤ j → is_waiting x ≡ true) (Run job start R.events).stage n (held 0 _)
          (λ m v. absurd (m refl)) (λ j d m v. R.at.waits j (omega (arith, v))) i d u);
    }

    reaches_next : Reaches (suc n)
    reaches_next = record {
      events = with_event (with_event R.events Grant 0 n) Commit 0 n;
      legal = legal_push job (opening start) (with_event R.events Grant 0 n) (record { kind = Commit; lane = 0; position = n }) granted holds;
      at = subst (IsAt (suc n)) (sym ends) at_next;
    }

  reaches : (n : ℕ) → n ≤ job.count → Reaches n
  reaches zero l = record { events = []; legal = tt; at = record { passed = λ i u. absurd (omega arith); waits = λ i u. refl } }
  reaches (suc n) l = reaches_next n (omega arith) (reaches n (omega arith))

pub can_end : EachJobCanEnd
can_end job start = let R = reaches job start job.count (omega arith) in (R.events, R.legal, R.at.passed)
