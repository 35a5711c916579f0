-- The core machine, which grants positions to lanes and takes their effects (the project's own).
use Rattle.std.specs.Prelude.{◌≡◌, ℕ, zero, suc, ◌+◌, ◌<◌, ◌==◌, Bool, true, false, ◌&&◌, ◌||◌, if◌then◌else◌, List, [], ◌∷◌, ◌++◌, map, Option, Some, None, unwrap_or}
use Rattle.std.specs.List.{list_any}
use Rattle.sol_base.specs.declared.key.Key.{Key}
use Rattle.sol_base.specs.declared.account.Account.{Account}
use Rattle.sol_base.specs.declared.lock.Lock.{Lock}
use Rattle.sol_base.specs.Accounts.{empty_account}
use Rattle.tx_report.specs.declared.outcome.Outcome.{Outcome}
use Rattle.bank_law.specs.declared.event.Event.{Event}
use Rattle.bank_law.specs.declared.event.EventKind.{EventKind}
use Rattle.bank_law.specs.declared.event.EventKind.TheVariants.{Grant, Commit, Return}
use Rattle.bank_law.specs.Job.{Job, same_key, has_key, keys, write_keys, beside}

-- a position is waiting, or held by a lane with the values lent, or done with its outcome
pub data Stage : Type 0 where
  waiting : Stage
  held : ℕ → List Account → Stage
  done : Outcome → Stage

-- the stage of each position, and the store, from which an account is away while it is lent for
-- writing
pub record State : Type 0 where
  pub stage : ℕ → Stage
  pub store : Key → Option Account

abbrev pub is_waiting : Stage → Bool
is_waiting waiting = true
is_waiting (held lane vs) = false
is_waiting (done outcome) = false

abbrev pub is_held_by : ℕ → Stage → Bool
is_held_by lane waiting = false
is_held_by lane (held other vs) = other == lane
is_held_by lane (done outcome) = false

abbrev pub is_done : Stage → Bool
is_done waiting = false
is_done (held lane vs) = false
is_done (done outcome) = true

abbrev pub is_held : Stage → Bool
is_held waiting = false
is_held (held lane vs) = true
is_held (done outcome) = false

-- the values lent to a held position
abbrev pub loan : Stage → List Account
loan waiting = []
loan (held lane vs) = vs
loan (done outcome) = []

-- all positions are waiting, and no account is away
abbrev pub opening : (Key → Account) → State
opening start = record { stage = λ i. waiting; store = λ key. Some (start key) }

-- two locks are on one key, and one of the two writes it
abbrev pub meet : Lock → Lock → Bool
meet a b = same_key a.key b.key && (a.write || b.write)

-- a lock of the one list meets a lock of the other
abbrev pub clash : List Lock → List Lock → Bool
clash one other = list_any (λ a. list_any (λ b. meet a b) other) one

-- a key is declared by both positions and written by at least one
abbrev pub conflict : Job → ℕ → ℕ → Bool
conflict job i j = clash (job.locks i) (job.locks j)

-- position i is waiting, and every earlier conflicting position is done
pub record Ready (job : Job) (s : State) (i : ℕ) : Type 0 where
  pub below : i < job.count
  pub waits : is_waiting (s.stage i) ≡ true
  pub earlier : (j : ℕ) → j < i → conflict job j i ≡ true → is_done (s.stage j) ≡ true

-- it is ready, and none before it is
pub record IsLeastReady (job : Job) (s : State) (i : ℕ) : Type 0 where
  pub ready : Ready job s i
  pub least : (j : ℕ) → j < i → Ready job s j → ⊥

-- the lane holds no position
abbrev pub HoldsNone : State → ℕ → Type 0
HoldsNone s lane = (i : ℕ) → is_held_by lane (s.stage i) ≡ false

-- no position is held
abbrev pub NothingHeld : State → Type 0
NothingHeld s = (lane i : ℕ) → is_held_by lane (s.stage i) ≡ false

-- all positions are done
abbrev pub AllDone : Job → State → Type 0
AllDone job s = (i : ℕ) → i < job.count → is_done (s.stage i) ≡ true

-- how many of the numbers below n pass
abbrev pub count_below : (ℕ → Bool) → ℕ → ℕ
count_below test zero = 0
count_below test (suc n) = (if test n then 1 else 0) + count_below test n

-- how many positions are held
abbrev pub held_count : Job → State → ℕ
held_count job s = count_below (λ i. is_held (s.stage i)) job.count

-- When an event may come: a grant of a ready position to a lane that holds none, a commit and a
-- return by the lane that holds the position.
abbrev pub MayCome : Job → State → EventKind → ℕ → ℕ → Type 0
MayCome job s Grant lane i = Ready job s i × HoldsNone s lane
MayCome job s Commit lane i = is_held_by lane (s.stage i) ≡ true
MayCome job s Return lane i = is_held_by lane (s.stage i) ≡ true

-- one position is at another stage
abbrev pub at_stage : (ℕ → Stage) → ℕ → Stage → ℕ → Stage
at_stage stage i now j = if j == i then now else stage j

-- these keys leave the store
abbrev pub taken_out : List Key → (Key → Option Account) → Key → Option Account
taken_out ks store key = if has_key key ks then None else store key

-- these keys are put in, each with the value that stands beside it among all
abbrev pub put_in : List Key → List Key → List Account → (Key → Option Account) → Key
    → Option Account
put_in ks all vs store key = if has_key key ks then Some (beside key all vs) else store key

-- the loan has the value of each declared key; written keys leave the store
abbrev pub grant : Job → State → ℕ → ℕ → State
grant job s lane i = record {
  stage = at_stage s.stage i
      (held lane (map (λ key. unwrap_or (s.store key) empty_account) (keys job i)));
  store = taken_out (write_keys job i) s.store;
}

-- the work's effects on the loan's values are put in the store, the outcome is kept, and the
-- position is done
abbrev pub commit : Job → State → ℕ → State
commit job s i =
    let effects = job.effects i (loan (s.stage i)) in
    record {
      stage = at_stage s.stage i (done effects.outcome);
      store = put_in (write_keys job i) (write_keys job i) effects.written s.store;
    }

-- the values go back, and the position is waiting
abbrev pub return : Job → State → ℕ → State
return job s i = record {
  stage = at_stage s.stage i waiting;
  store = put_in (write_keys job i) (keys job i) (loan (s.stage i)) s.store;
}

abbrev pub changed_by : Job → State → EventKind → ℕ → ℕ → State
changed_by job s Grant lane i = grant job s lane i
changed_by job s Commit lane i = commit job s i
changed_by job s Return lane i = return job s i

abbrev pub after_event : Job → State → Event → State
after_event job s event = changed_by job s event.kind event.lane event.position

-- the state after a list of events
abbrev pub after : Job → State → List Event → State
after job s [] = s
after job s (event ∷ events) = after job (after_event job s event) events

-- each event may come when it comes
abbrev pub IsLegalFrom : Job → State → List Event → Type 0
IsLegalFrom job s [] = Unit {0}
IsLegalFrom job s (event ∷ events) =
    MayCome job s event.kind event.lane event.position
    × IsLegalFrom job (after_event job s event) events

-- a list of events, and one more
abbrev pub with_event : List Event → EventKind → ℕ → ℕ → List Event
with_event events kind lane position =
    events ++ record { kind = kind; lane = lane; position = position } ∷ []

-- the state after a list of events from the opening state on, and that the list is legal
abbrev pub Run : Job → (Key → Account) → List Event → State
Run job start events = after job (opening start) events

abbrev pub IsLegal : Job → (Key → Account) → List Event → Type 0
IsLegal job start events = IsLegalFrom job (opening start) events
