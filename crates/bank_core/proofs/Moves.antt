-- What an event does to what a core keeps.
use Rattle.std.proofs.Common.{◌≡◌, ℕ, zero, suc, ◌+◌, ◌<◌, ◌≤◌, ◌==◌, Bool, true, false, inl, inr, ◌⊎◌, List, [], ◌∷◌, ◌++◌, map, length, get_or, set, Option, Some, None, IsSome, refl, sym, ◌∙◌, ap, subst, arith, get_or-set_same, get_or-set_other, length-set, eq-eqb}
use Rattle.std.specs.Prelude.{not, ◌||◌, unwrap_or, vec_len, vec_capacity}
use Rattle.std.specs.List.{list_any}
use Rattle.std.specs.declared.vec.Vec.{Vec}
use Rattle.std.specs.declared.alloc.Global.{Global}
use Rattle.std.proofs.lemmas.List.{length-map, length_push}
use Rattle.std.proofs.lemmas.List.Elements.{All-push}
use Rattle.std.proofs.lemmas.Bool.{or_left, or_right, cases_lt, cases_eq, false_from_ne_true}
use Rattle.sol_base.specs.declared.key.Key.{Key}
use Rattle.sol_base.specs.declared.account.Account.{Account}
use Rattle.sol_base.specs.declared.lock.Lock.{Lock}
use Rattle.sol_base.specs.Accounts.{empty_account, accounts_of}
use Rattle.tx_report.specs.declared.outcome.Outcome.{Outcome}
use Rattle.bank_law.specs.declared.event.Event.{Event}
use Rattle.bank_law.specs.declared.event.EventKind.{EventKind}
use Rattle.bank_law.specs.declared.event.EventKind.TheVariants.{Grant, Commit, Return}
use Rattle.bank_law.specs.Job.{Job, JobEffects, has_key, keys, write_keys, declares}
use Rattle.bank_law.specs.Serial.{serial}
use Rattle.bank_law.specs.Lawful.{IsLawful}
use Rattle.bank_law.specs.Machine.{Stage, waiting, held, done, State, is_waiting, is_held_by, loan, opening, grant, commit, return, at_stage, Ready, HoldsNone, Run, IsLegal, held_count, is_held, with_event}
use Rattle.bank_law.specs.Sound.{Sound, Agrees}
use Rattle.bank_law.specs.History.{own, holds}
use Rattle.bank_law.specs.History.{returns, is_return}
use Rattle.bank_law.proofs.Stages.{at_cases, at_stage-same, held_started}
use Rattle.bank_law.proofs.Events.{run_sound, grant_sound, loan_agrees, ready_there}
use Rattle.bank_law.proofs.Journals.{after_push, legal_push}
use Rattle.bank_law.proofs.Lanes.{lanes_hold}
use Rattle.bank_law.proofs.Counts.{short, one_if}
use Rattle.lock_table.specs.declared.locks.NumberedLock.{NumberedLock}
use Rattle.lock_table.specs.Numbers.{Numbers, keyed_lock, numbered_key}
use Rattle.lock_table.proofs.Numbering.{Numbers-distinct}
use Rattle.prio_graph.specs.declared.mark.Mark.{Mark}
use Rattle.prio_graph.specs.declared.mark.Mark.TheVariants.{Waiting, Started, Done}
use Rattle.prio_graph.specs.Ready.{Positions, set_at, mark_at}
use Rattle.prio_graph.specs.Laws.{IsOf, mark_of}
use Rattle.prio_graph.proofs.Moves.{inside}
use Rattle.prio_graph.proofs.MachineLaws.{is-waits}
use Rattle.bank_core.specs.Slots.{Shared, account_at, value_of, has, numbers, write_numbers, put_at, taken_at, put_back_at, AllThere, AreDistinct, ReadsAny, found}
use Rattle.bank_core.specs.Keeping.{Keeps, HasRoom, HasBuffers, IsWide, outcome_of}
use Rattle.bank_core.proofs.Numbers.{has_is, keys_is, numbers_within, as_many_locks, found_is, taken_is, written_is, returned_is}
use Rattle.bank_law.proofs.Histories.{own_same, own_other, own_none, holds_push, returns_push, returns_few}
use Rattle.bank_law.proofs.Held.{some_passes}
use Rattle.bank_core.specs.Takes.{SomeLaneHolds}

started_is : (x : Stage) (lane : ℕ) → is_held_by lane x ≡ true → mark_of x ≡ Started
started_is waiting lane h = absurd (cc)
started_is (held other vs) lane h = refl
started_is (done o) lane h = absurd (cc)

held_outcome : (x : Stage) (lane : ℕ) → is_held_by lane x ≡ true → outcome_of x ≡ None
held_outcome waiting lane h = absurd (cc)
held_outcome (held other vs) lane h = refl
held_outcome (done o) lane h = absurd (cc)

waiting_outcome : (x : Stage) → is_waiting x ≡ true → outcome_of x ≡ None
waiting_outcome waiting h = refl
waiting_outcome (held other vs) h = absurd (cc)
waiting_outcome (done o) h = absurd (cc)

number_stands : (ls : List NumberedLock) (k : ℕ) (d : NumberedLock) → k < length ls → has (get_or ls k d).number (numbers ls) ≡ true
number_stands [] k d l = absurd (omega arith)
number_stands (x ∷ xs) zero d l = or_left (x.number == x.number) (has x.number (numbers xs)) (eq-eqb x.number x.number refl)
number_stands (x ∷ xs) (suc k) d l = or_right ((get_or xs k d).number == x.number) (has (get_or xs k d).number (numbers xs)) (number_stands xs k d (omega arith))

-- one position of a graph has another mark
abbrev pub marked_as : Positions → ℕ → Mark → Positions
marked_as p i mark = record p { marks = set p.marks i mark }

of_next : (ks : List Key) (job : Job) (s : State) (p : Positions) (i : ℕ) (now : Stage) (store : Key → Option Account) (mark : Mark) → IsOf ks job s p → mark ≡ mark_of now → i < length p.marks
    → IsOf ks job (record { stage = at_stage s.stage i now; store = store }) (marked_as p i mark)
of_next ks job s p i now store mark of e l = record {
  count = of.count;
  numbered = of.numbered;
  marked = at_cases (λ j x. j < job.count → mark_at (set p.marks i mark) j ≡ mark_of x) s.stage i now
      (λ u. get_or-set_same p.marks i mark Done l ∙ e)
      (λ j n u. get_or-set_other p.marks i j mark Done n ∙ of.marked j u);
}

-- who holds what, by the journal
pub holder : (job : Job) (start : Key → Account) (events : List Event) → IsLegal job start events → (lane i : ℕ)
    → holds (own events lane) ≡ Some i → is_held_by lane ((Run job start events).stage i) ≡ true
holder job start events legal lane i e = (lanes_hold job start events legal lane i).1 e

pub holds_none : (job : Job) (start : Key → Account) (events : List Event) → IsLegal job start events → (lane : ℕ) → holds (own events lane) ≡ None → HoldsNone (Run job start events) lane
holds_none job start events legal lane e i = false_from_ne_true _ (λ t. let h = (lanes_hold job start events legal lane i).0 t in absurd (cc))

module _ (job : Job) (start : Key → Account) (ks : List Key) (p : Positions) (slots : List (Option Shared)) (outcomes : List (Option Outcome)) (journal : List Event)
    (K : Keeps job start ks p slots outcomes journal) where
  abbrev s : State
  s = Run job start journal

  sound : Sound job start s
  sound = run_sound job start journal K.legal

  module _ (lane i : ℕ) (h : is_held_by lane (s.stage i) ≡ true) where
    pub held_below_count : i < job.count
    held_below_count = sound.within i (held_started (s.stage i) lane h)

    pub held_started_mark : mark_at p.marks i ≡ Started
    held_started_mark = K.of.marked i held_below_count ∙ started_is (s.stage i) lane h

    held_in_marks : i < length p.marks
    held_in_marks = inside p.marks i (λ d. let m = held_started_mark in absurd (cc))

    pub held_loan : loan (s.stage i) ≡ map (serial job start i) (keys job i)
    held_loan = loan_agrees job start i lane (s.stage i) h (sound.agrees i)

    -- the effects of a held position are taken
    pub commit_keeps : (effects : JobEffects) → effects ≡ job.effects i (map (serial job start i) (keys job i)) → (filled : List (Option Shared)) → length filled ≡ length slots
        → ((n : ℕ) → account_at filled n ≡ put_at (write_numbers (set_at p.sets i)) effects.written (account_at slots) n)
        → Keeps job start ks (marked_as p i Done) filled (set outcomes i (Some effects.outcome)) (with_event journal Commit lane i)
    commit_keeps effects right filled same_length puts = record {
      legal = legal_push job (opening start) journal e K.legal h;
      distinct = K.distinct;
      of = subst (λ t. IsOf ks job t (marked_as p i Done)) (sym grown) (of_next ks job s p i (done (job.effects i (loan (s.stage i))).outcome) _ Done K.of refl held_in_marks);
      slots_length = same_length ∙ K.slots_length;
      stored = λ n l. puts n ∙ (written_is ks job i (set_at p.sets i) (K.of.numbered i held_below_count) K.distinct (account_at slots) s.store K.stored effects.written n l
          ∙ (ap (λ (g : JobEffects). bank_law_put g n) given ∙ sym (ap (λ (t : State). t.store (numbered_key ks n)) grown)));
      outcomes_length = length-set outcomes i (Some effects.outcome) ∙ K.outcomes_length;
      kept = λ j l. outcomes_next j l ∙ sym (ap (λ (t : State). outcome_of (t.stage j)) grown);
    }
      where
        e : Event
        e = record { kind = Commit; lane = lane; position = i }

        grown : Run job start (journal ++ e ∷ []) ≡ commit job s i
        grown = after_push job (opening start) journal e

        given : effects ≡ job.effects i (loan (s.stage i))
        given = right ∙ ap (job.effects i) (sym held_loan)

        bank_law_put : JobEffects → ℕ → Option Account
        bank_law_put g n = Rattle.bank_law.specs.Machine.put_in (write_keys job i) (write_keys job i) g.written s.store (numbered_key ks n)

        outcomes_next : (j : ℕ) → j < job.count → get_or (set outcomes i (Some effects.outcome)) j None ≡ outcome_of ((commit job s i).stage j)
        outcomes_next = at_cases (λ j x. j < job.count → get_or (set outcomes i (Some effects.outcome)) j None ≡ outcome_of x) s.stage i (done _)
            (λ l. let m = K.outcomes_length in get_or-set_same outcomes i (Some effects.outcome) None (omega (arith, l, m)) ∙ ap (λ (g : JobEffects). Some g.outcome) given)
            (λ j n l. get_or-set_other outcomes i j (Some effects.outcome) None n ∙ K.kept j l)

    -- the values of a held position go back
    pub return_keeps : IsLawful job → (values : List Account) → values ≡ map (serial job start i) (keys job i) → (filled : List (Option Shared)) → length filled ≡ length slots
        → ((n : ℕ) → account_at filled n ≡ put_back_at (set_at p.sets i) values (account_at slots) n)
        → Keeps job start ks (marked_as p i Waiting) filled outcomes (with_event journal Return lane i)
    return_keeps W values lent filled same_length puts = record {
      legal = legal_push job (opening start) journal e K.legal h;
      distinct = K.distinct;
      of = subst (λ t. IsOf ks job t (marked_as p i Waiting)) (sym grown) (of_next ks job s p i waiting _ Waiting K.of refl held_in_marks);
      slots_length = same_length ∙ K.slots_length;
      stored = λ n l. puts n ∙ (returned_is ks job i (set_at p.sets i) N K.distinct (account_at slots) s.store K.stored once values many n l
          ∙ (ap (λ vs. Rattle.bank_law.specs.Machine.put_in (write_keys job i) (keys job i) vs s.store
          (numbered_key ks n)) (lent ∙ sym held_loan)
          ∙ sym (ap (λ (t : State). t.store (numbered_key ks n)) grown)));
      outcomes_length = K.outcomes_length;
      kept = λ j l. outcomes_next j l ∙ sym (ap (λ (t : State). outcome_of (t.stage j)) grown);
    }
      where
        e : Event
        e = record { kind = Return; lane = lane; position = i }

        grown : Run job start (journal ++ e ∷ []) ≡ return job s i
        grown = after_push job (opening start) journal e

        N : Numbers ks (job.locks i) (set_at p.sets i)
        N = K.of.numbered i held_below_count

        once : AreDistinct (set_at p.sets i)
        once = Numbers-distinct ks (job.locks i) (set_at p.sets i) N (W.distinct i held_below_count)

        many : length values ≡ length (set_at p.sets i)
        many = ap length lent ∙ (length-map (keys job i) (serial job start i) ∙ (length-map (job.locks i) _ ∙ as_many_locks ks job i (set_at p.sets i) N))

        outcomes_next : (j : ℕ) → j < job.count → get_or outcomes j None ≡ outcome_of ((return job s i).stage j)
        outcomes_next = at_cases (λ j x. j < job.count → get_or outcomes j None ≡ outcome_of x) s.stage i waiting
            (λ l. K.kept i l ∙ held_outcome (s.stage i) lane h)
            (λ j n l. K.kept j l)

  module _ (i : ℕ) (r : Ready job s i) where
    pub ready_set : Numbers ks (job.locks i) (set_at p.sets i)
    ready_set = K.of.numbered i r.below

    pub ready_once : IsLawful job → AreDistinct (set_at p.sets i)
    ready_once W = Numbers-distinct ks (job.locks i) (set_at p.sets i) ready_set (W.distinct i r.below)

    ready_in_marks : i < length p.marks
    ready_in_marks = inside p.marks i (λ d. let m = K.of.marked i r.below ∙ is-waits (s.stage i) r.waits in absurd (cc))

    -- the values of a ready position are there
    pub all_there : AllThere (set_at p.sets i) (account_at slots)
    all_there k d l =
        let n : ℕ = (get_or (set_at p.sets i) k d).number in
        let below : n < length ks = ready_set.within k d l in
        let dec : declares job i (numbered_key ks n)
        ≡ true = ap (has_key (numbered_key ks n)) (keys_is ks job i (set_at p.sets i) ready_set)
        ∙ (has_is ks K.distinct n (numbers (set_at p.sets i)) below
        (numbers_within ks job i (set_at p.sets i) ready_set) ∙ number_stands (set_at p.sets i) k d l) in
        subst IsSome (sym (K.stored n below ∙ ready_there job start s i sound r (numbered_key ks n) dec)) refl

    -- and those of the serial run
    pub lent_right : (lane : ℕ) (values : List Account) → values ≡ found (set_at p.sets i) (account_at slots) → values ≡ map (serial job start i) (keys job i)
    lent_right lane values e =
        let S = grant_sound job start s lane i sound r in
        e ∙ (found_is ks job i (set_at p.sets i) ready_set (account_at slots) s.store K.stored
        ∙ subst (λ x. Agrees job start i x) (at_stage-same s.stage i (held lane (map (λ key. unwrap_or (s.store key) empty_account) (keys job i)))) (S.agrees i))

    -- a ready position is granted
    pub grant_keeps : (lane : ℕ) → HoldsNone s lane → (taken : List (Option Shared)) → length taken ≡ length slots
        → ((n : ℕ) → account_at taken n ≡ taken_at (write_numbers (set_at p.sets i)) (account_at slots) n)
        → Keeps job start ks (marked_as p i Started) taken outcomes (with_event journal Grant lane i)
    grant_keeps lane free taken same_length takes = record {
      legal = legal_push job (opening start) journal e K.legal (r, free);
      distinct = K.distinct;
      of = subst (λ t. IsOf ks job t (marked_as p i Started)) (sym grown)
          (of_next ks job s p i (held lane (map (λ key. unwrap_or (s.store key) empty_account) (keys job i))) _
          Started K.of refl ready_in_marks);
      slots_length = same_length ∙ K.slots_length;
      stored = λ n l. takes n ∙ (taken_is ks job i (set_at p.sets i) ready_set K.distinct (account_at slots) s.store K.stored n l ∙ sym (ap (λ (t : State). t.store (numbered_key ks n)) grown));
      outcomes_length = K.outcomes_length;
      kept = λ j l. outcomes_next j l ∙ sym (ap (λ (t : State). outcome_of (t.stage j)) grown);
    }
      where
        e : Event
        e = record { kind = Grant; lane = lane; position = i }

        grown : Run job start (journal ++ e ∷ []) ≡ grant job s lane i
        grown = after_push job (opening start) journal e

        outcomes_next : (j : ℕ) → j < job.count → get_or outcomes j None ≡ outcome_of ((grant job s lane i).stage j)
        outcomes_next = at_cases (λ j x. j < job.count → get_or outcomes j None ≡ outcome_of x) s.stage i (held lane _)
            (λ l. K.kept i l ∙ waiting_outcome (s.stage i) r.waits)
            (λ j n l. K.kept j l)

  -- slots that hold the same accounts
  pub same_slots_keep : (next : List (Option Shared)) → length next ≡ length slots → ((n : ℕ) → account_at next n ≡ account_at slots n) → Keeps job start ks p next outcomes journal
  same_slots_keep next l h = record {
    legal = K.legal;
    distinct = K.distinct;
    of = K.of;
    slots_length = l ∙ K.slots_length;
    stored = λ n b. h n ∙ K.stored n b;
    outcomes_length = K.outcomes_length;
    kept = K.kept;
  }

-- a journal with one event more has room for it
pub room_next : (count lanes capacity : ℕ) (journal : List Event) (e : Event)
    → HasRoom count lanes capacity journal → e.lane < lanes
    → (is_return e.kind ≡ true → returns (own journal e.lane) ≡ 0)
    → HasRoom count lanes capacity (journal ++ e ∷ [])
room_next count lanes capacity journal e R l none = record {
  few = R.few;
  most = R.most;
  room = R.room;
  lanes_below = All-push (λ (event : Event). event.lane < lanes) journal e R.lanes_below l;
  once = λ lane. by_case lane (cases_eq e.lane lane);
}
  where
    own_once : (b : Bool) → is_return e.kind ≡ b → returns (own journal e.lane) + one_if b ≤ 1
    own_once true t = let z = none t in omega (arith, z)
    own_once false t = let o = R.once e.lane in omega (arith, o)

    by_case : (lane : ℕ) → (e.lane ≡ lane) ⊎ (e.lane ≡ lane → ⊥) → returns (own (journal ++ e ∷ []) lane) ≤ 1
    by_case lane (inl same) = subst (λ k. returns (own (journal ++ e ∷ []) k) ≤ 1) same (
        let a = ap returns (own_same journal e e.lane refl) ∙ returns_push (own journal e.lane) e in let b = own_once (is_return e.kind) refl in omega (arith, a, b))
    by_case lane (inr other) = let a = ap returns (own_other journal e lane other) in let o = R.once lane in omega (arith, a, o)

pub room_left : (job : Job) (start : Key → Account) (lanes capacity : ℕ) (journal : List Event) (e : Event)
    → HasRoom job.count lanes capacity (journal ++ e ∷ []) → IsLegal job start (journal ++ e ∷ [])
    → length journal < capacity
room_left job start lanes capacity journal e R legal =
    let a = short job start (journal ++ e ∷ []) legal in
    let b = returns_few lanes (journal ++ e ∷ []) R.lanes_below R.once in
    let c = R.most in
    let d = R.room in
    let l = length_push journal e in
    omega (arith, a, b, c, d, l)

pub room_wider : (count lanes capacity more : ℕ) (journal : List Event) → capacity ≤ more → HasRoom count lanes capacity journal → HasRoom count lanes more journal
room_wider count lanes capacity more journal l R = record { few = R.few; most = R.most; room = let r = R.room in omega (arith, r, l); lanes_below = R.lanes_below; once = R.once }

-- the lane of what is held is one of the core's
pub holder_below : (count lanes capacity : ℕ) (journal : List Event) (lane i : ℕ) → HasRoom count lanes capacity journal → holds (own journal lane) ≡ Some i → lane < lanes
holder_below count lanes capacity journal lane i R h =
    elim (cases_lt lane lanes) [
      | inl l ↦ l
      | inr l ↦ let none = ap holds (own_none lanes journal lane R.lanes_below l) in absurd (cc)
    ]

-- the buffers once a lane has taken its own, has put it back, and has ended its loan
module _ (job : Job) (lanes : ℕ) (journal : List Event) (buffers : List (Vec Shared Global)) (B : HasBuffers job lanes journal buffers) (lane : ℕ) where
  pub taken_buffers : (i : ℕ) (b : Vec Shared Global) → HasBuffers job lanes (journal ++ record { kind = Grant; lane = lane; position = i } ∷ []) (set buffers lane b)
  taken_buffers i b = record {
    buffers_length = length-set buffers lane b ∙ B.buffers_length;
    free = λ l d below none. by_case l d below none (cases_eq lane l);
  }
    where
      e : Event
      e = record { kind = Grant; lane = lane; position = i }

      by_case : (l : ℕ) (d : Vec Shared Global) → l < lanes → holds (own (journal ++ e ∷ []) l) ≡ None
          → (lane ≡ l) ⊎ (lane ≡ l → ⊥)
          → (vec_len (get_or (set buffers lane b) l d) ≡ 0)
          × IsWide job (vec_capacity (get_or (set buffers lane b) l d))
      by_case l d below none (inl same) = let h = ap holds (own_same journal e l same) ∙ holds_push (own journal l) e in absurd (cc)
      by_case l d below none (inr other) =
          subst (λ v. (vec_len v ≡ 0) × IsWide job (vec_capacity v))
          (sym (get_or-set_other buffers lane l b d (λ q. other (sym q))))
          (B.free l d below (sym (ap holds (own_other journal e l other)) ∙ none))

  module _ (b : Vec Shared Global) (empty : vec_len b ≡ 0) (wide : IsWide job (vec_capacity b)) where
    pub kept_buffers : HasBuffers job lanes journal (set buffers lane b)
    kept_buffers = record {
      buffers_length = length-set buffers lane b ∙ B.buffers_length;
      free = λ l d below none. by_case l d below none (cases_eq l lane);
    }
      where
        by_case : (l : ℕ) (d : Vec Shared Global) → l < lanes → holds (own journal l) ≡ None
            → (l ≡ lane) ⊎ (l ≡ lane → ⊥)
            → (vec_len (get_or (set buffers lane b) l d) ≡ 0)
            × IsWide job (vec_capacity (get_or (set buffers lane b) l d))
        by_case l d below none (inl same) =
            subst (λ v. (vec_len v ≡ 0) × IsWide job (vec_capacity v))
            (sym (ap (λ k. get_or (set buffers lane b) k d) same
            ∙ get_or-set_same buffers lane b d (let m = B.buffers_length in omega (arith, below, m, same))))
            (empty, wide)
        by_case l d below none (inr other) =
            subst (λ v. (vec_len v ≡ 0) × IsWide job (vec_capacity v)) (sym (get_or-set_other buffers lane l b d other)) (B.free l d below none)

    pub ended_buffers : (kind : EventKind) (i : ℕ) → HasBuffers job lanes (journal ++ record { kind = kind; lane = lane; position = i } ∷ []) (set buffers lane b)
    ended_buffers kind i = record {
      buffers_length = length-set buffers lane b ∙ B.buffers_length;
      free = λ l d below none. by_case l d below none (cases_eq l lane);
    }
      where
        e : Event
        e = record { kind = kind; lane = lane; position = i }

        by_case : (l : ℕ) (d : Vec Shared Global) → l < lanes → holds (own (journal ++ e ∷ []) l) ≡ None
            → (l ≡ lane) ⊎ (l ≡ lane → ⊥)
            → (vec_len (get_or (set buffers lane b) l d) ≡ 0)
            × IsWide job (vec_capacity (get_or (set buffers lane b) l d))
        by_case l d below none (inl same) =
            subst (λ v. (vec_len v ≡ 0) × IsWide job (vec_capacity v))
            (sym (ap (λ k. get_or (set buffers lane b) k d) same
            ∙ get_or-set_same buffers lane b d (let m = B.buffers_length in omega (arith, below, m, same))))
            (empty, wide)
        by_case l d below none (inr other) =
            subst (λ v. (vec_len v ≡ 0) × IsWide job (vec_capacity v))
            (sym (get_or-set_other buffers lane l b d other))
            (B.free l d below (sym (ap holds (own_other journal e l (λ q. other (sym q)))) ∙ none))

-- `Keeps` holds of equal parts
pub keeps_same : (job : Job) (start : Key → Account) (ks : List Key) (p p' : Positions)
    (slots slots' : List (Option Shared)) (outcomes outcomes' : List (Option Outcome))
    (journal journal' : List Event)
    → p' ≡ p → slots' ≡ slots → outcomes' ≡ outcomes → journal' ≡ journal → Keeps job start ks p slots outcomes journal → Keeps job start ks p' slots' outcomes' journal'
keeps_same job start ks p p' slots slots' outcomes outcomes' journal journal' a b c d K =
    subst (λ x. Keeps job start ks x slots' outcomes' journal') (sym a)
    (subst (λ x. Keeps job start ks p x outcomes' journal') (sym b)
    (subst (λ x. Keeps job start ks p slots x journal') (sym c)
    (subst (λ x. Keeps job start ks p slots outcomes x) (sym d) K)))

pub room_after : (count lanes capacity more : ℕ) (journal next : List Event) (e : Event)
    → HasRoom count lanes capacity journal → e.lane < lanes
    → (is_return e.kind ≡ true → returns (own journal e.lane) ≡ 0) → next ≡ journal ++ e ∷ [] → capacity ≤ more
    → HasRoom count lanes more next
room_after count lanes capacity more journal next e R l none same wider =
    subst (HasRoom count lanes more) (sym same) (room_wider count lanes capacity more (journal ++ e ∷ []) wider (room_next count lanes capacity journal e R l none))

pub wide_as : (job : Job) (capacity more : ℕ) → capacity ≤ more → IsWide job capacity → IsWide job more
wide_as job capacity more l W i below = let w = W i below in omega (arith, w, l)

-- the buffer that a free lane takes
pub free_buffer : (job : Job) (lanes : ℕ) (journal : List Event) (buffers : List (Vec Shared Global)) (lane : ℕ)
    (b : Vec Shared Global) → HasBuffers job lanes journal buffers → lane < lanes
    → holds (own journal lane) ≡ None → b ≡ get_or buffers lane b
    → (vec_len b ≡ 0) × IsWide job (vec_capacity b)
free_buffer job lanes journal buffers lane b B below none e = subst (λ v. (vec_len v ≡ 0) × IsWide job (vec_capacity v)) (sym e) (B.free lane b below none)

reads_as : (ks : List Key) (set : List NumberedLock) → list_any (λ (lock : Lock). not lock.write) (map (keyed_lock ks) set) ≡ list_any (λ (lock : NumberedLock). not lock.write) set
reads_as ks [] = refl
reads_as ks (x ∷ xs) = ap (λ b. not x.write || b) (reads_as ks xs)

pub reads_is : (ks : List Key) (locks : List Lock) (set : List NumberedLock) → Numbers ks locks set → ReadsAny set → list_any (λ (lock : Lock). not lock.write) locks ≡ true
reads_is ks locks set N r = ap (list_any (λ (lock : Lock). not lock.write)) (sym N.stands_for) ∙ (reads_as ks set ∙ r)

pub lent_many : (job : Job) (start : Key → Account) (ks : List Key) (i : ℕ) (set : List NumberedLock)
    (values : List Shared) → Numbers ks (job.locks i) set
    → accounts_of values ≡ map (serial job start i) (keys job i) → length values ≡ length set
lent_many job start ks i set values N lent =
    sym (length-map values value_of) ∙ (ap length lent ∙ (length-map (keys job i) (serial job start i) ∙ (length-map (job.locks i) (λ (lock : Lock). lock.key) ∙ as_many_locks ks job i set N)))

holder_of : (x : Stage) → is_held x ≡ true → (lane : ℕ) × (is_held_by lane x ≡ true)
holder_of waiting h = absurd (cc)
holder_of (held lane vs) h = (lane, eq-eqb lane lane refl)
holder_of (done o) h = absurd (cc)

-- where positions are held, one of the lanes holds one
pub someone_holds : (job : Job) (start : Key → Account) (lanes capacity : ℕ) (journal : List Event)
    → IsLegal job start journal → HasRoom job.count lanes capacity journal
    → 1 ≤ held_count job (Run job start journal) → SomeLaneHolds lanes journal
someone_holds job start lanes capacity journal legal R some =
    let s : State = Run job start journal in
    let found = some_passes (λ i. is_held (s.stage i)) job.count some in
    let who = holder_of (s.stage found.0) found.2 in
    let h = (lanes_hold job start journal legal who.0 found.0).0 who.1 in
    record { lane = who.0; below = holder_below job.count lanes capacity journal who.0 found.0 R h; position = found.0; is_held = h }
