-- What holds of every legal list of events, and of the serial run.
use Rattle.std.specs.Prelude.{◌≡◌, ℕ, suc, ◌+◌, ◌*◌, ◌<◌, ◌≤◌, true, false, ◌↔◌, List, [], ◌++◌, length, take, map, All, Some}
use Rattle.sol_base.specs.declared.key.Key.{Key}
use Rattle.sol_base.specs.declared.account.Account.{Account}
use Rattle.account_store.specs.State as state
use Rattle.account_store.specs.State.{IsState}
use Rattle.bank_law.specs.declared.event.Event.{Event}
use Rattle.bank_law.specs.declared.event.EventKind.{EventKind}
use Rattle.bank_law.specs.declared.event.EventKind.TheVariants.{Grant}
use Rattle.bank_law.specs.Job.{Job, keys, writes}
use Rattle.bank_law.specs.Serial.{performed, serial, result}
use Rattle.bank_law.specs.Machine.{held, done, State, is_held_by, is_done, Ready, IsLeastReady, NothingHeld, AllDone, held_count, with_event, Run, IsLegal}
use Rattle.bank_law.specs.Sound.{Sound}
use Rattle.bank_law.specs.History.{own, holds, held_after, returns}
use Rattle.bank_law.specs.Lawful.{IsShort, IsSettled, lamports_in, lamports_under, lent_for_writing, Fits, IsLawful, IsStart}
use Rattle.bank_law.specs.SerialState.{serial_state}

-- after each event of a legal list the state is sound
abbrev pub EveryLegalHistoryIsSound : Type 0
EveryLegalHistoryIsSound =
    (job : Job) (start : Key → Account) (events : List Event) → IsLegal job start events →
    (n : ℕ) → Sound job start (Run job start (take n events))

-- where nothing is held and a position is not done, some position is ready
abbrev pub SomePositionIsReady : Type 0
SomePositionIsReady =
    (job : Job) (s : State) → NothingHeld s →
    (j : ℕ) → j < job.count → is_done (s.stage j) ≡ false → (i : ℕ) × Ready job s i

-- where a position is ready, one is the least
abbrev pub OneIsLeastReady : Type 0
OneIsLeastReady =
    (job : Job) (s : State) (i : ℕ) → Ready job s i → (j : ℕ) × IsLeastReady job s j

-- and no two are
abbrev pub LeastReadyIsOne : Type 0
LeastReadyIsOne =
    (job : Job) (s : State) (i j : ℕ) → IsLeastReady job s i → IsLeastReady job s j → i ≡ j

-- where no position is ready and none is held, all are done
abbrev pub NoneLeftIsAllDone : Type 0
NoneLeftIsAllDone =
    (job : Job) (start : Key → Account) (events : List Event) → IsLegal job start events →
    ((i : ℕ) → Ready job (Run job start events) i → ⊥) → held_count job (Run job start events) ≡ 0 →
    AllDone job (Run job start events)

-- where all are done, each account is in the store as the serial run leaves it
abbrev pub AccountsEndSerial : Type 0
AccountsEndSerial =
    (job : Job) (start : Key → Account) (events : List Event) → IsLegal job start events →
    AllDone job (Run job start events) →
    (key : Key) → (Run job start events).store key ≡ Some (serial job start job.count key)

-- and each outcome is that of the serial run
abbrev pub OutcomesEndSerial : Type 0
OutcomesEndSerial =
    (job : Job) (start : Key → Account) (events : List Event) → IsLegal job start events →
    AllDone job (Run job start events) →
    (i : ℕ) → i < job.count → (Run job start events).stage i ≡ done (result job start i)

-- some legal list leaves all positions done
abbrev pub EachJobCanEnd : Type 0
EachJobCanEnd =
    (job : Job) (start : Key → Account) →
    (events : List Event) × IsLegal job start events × AllDone job (Run job start events)

-- a lane holds the position that it holds by its own events, and no other
abbrev pub LanesHoldTheirOwn : Type 0
LanesHoldTheirOwn =
    (job : Job) (start : Key → Account) (events : List Event) → IsLegal job start events →
    (lane i : ℕ) →
    (is_held_by lane ((Run job start events).stage i) ≡ true) ↔ (holds (own events lane) ≡ Some i)

-- one event more is one of its lane's
abbrev pub OwnGrows : Type 0
OwnGrows =
    (events : List Event) (kind : EventKind) (lane i : ℕ) →
    own (with_event events kind lane i) lane ≡ with_event (own events lane) kind lane i

-- and none of another's
abbrev pub OwnOfOthersStays : Type 0
OwnOfOthersStays =
    (events : List Event) (kind : EventKind) (lane i other : ℕ) → (lane ≡ other → ⊥) →
    own (with_event events kind lane i) other ≡ own events other

-- the last event says what is held
abbrev pub HoldsByTheLast : Type 0
HoldsByTheLast =
    (mine : List Event) (kind : EventKind) (lane i : ℕ) →
    holds (with_event mine kind lane i) ≡ held_after kind i

-- a grant adds one to the number held
abbrev pub GrantsAddOne : Type 0
GrantsAddOne =
    (job : Job) (start : Key → Account) (events : List Event) (lane i : ℕ) →
    IsLegal job start (with_event events Grant lane i) →
    held_count job (Run job start (with_event events Grant lane i))
    ≡ held_count job (Run job start events) + 1

-- a commit takes one away, and so does a return
abbrev pub EndsTakeOne : EventKind → Type 0
EndsTakeOne kind =
    (job : Job) (start : Key → Account) (events : List Event) (lane i : ℕ) →
    IsLegal job start (with_event events kind lane i) →
    held_count job (Run job start (with_event events kind lane i)) + 1
    ≡ held_count job (Run job start events)

-- no more are held than there are positions
abbrev pub FewAreHeld : Type 0
FewAreHeld = (job : Job) (s : State) → held_count job s ≤ job.count

-- a legal list has at most two events for each position and two for each return
abbrev pub HistoriesAreShort : Type 0
HistoriesAreShort =
    (job : Job) (start : Key → Account) (events : List Event) → IsLegal job start events →
    length events ≤ 2 * job.count + 2 * returns events

-- where no lane returned more than once, there are at most as many returns as lanes
abbrev pub ReturnsAreFew : Type 0
ReturnsAreFew =
    (lanes : ℕ) (events : List Event) → All (λ event. event.lane < lanes) events →
    ((lane : ℕ) → returns (own events lane) ≤ 1) → returns events ≤ lanes

-- a position that is done stays at that stage
abbrev pub DoneStaysDone : Type 0
DoneStaysDone =
    (job : Job) (start : Key → Account) (events more : List Event) →
    IsLegal job start (events ++ more) →
    (i : ℕ) → is_done ((Run job start events).stage i) ≡ true →
    (Run job start (events ++ more)).stage i ≡ (Run job start events).stage i

-- after all are done no event is legal
abbrev pub AllDoneIsTheEnd : Type 0
AllDoneIsTheEnd =
    (job : Job) (start : Key → Account) (events more : List Event) →
    IsLegal job start (events ++ more) → AllDone job (Run job start events) → more ≡ []

-- a loan of a lawful work has values on which its position may be performed
abbrev pub LoansFit : Type 0
LoansFit =
    (job : Job) (start : Key → Account) (ks : List Key) → IsLawful job → IsStart job start ks →
    (events : List Event) → IsLegal job start events →
    (lane i : ℕ) (vs : List Account) → (Run job start events).stage i ≡ held lane vs →
    Fits (job.locks i) vs

-- and no more lamports than the start
abbrev pub LoansHaveNoMore : Type 0
LoansHaveNoMore =
    (job : Job) (start : Key → Account) (ks : List Key) → IsLawful job → IsStart job start ks →
    (events : List Event) → IsLegal job start events →
    (lane i : ℕ) (vs : List Account) → (Run job start events).stage i ≡ held lane vs →
    lamports_in vs ≤ lamports_under start ks

-- the serial run of a lawful work has no more lamports than the start
abbrev pub SerialRunsHaveNoMore : Type 0
SerialRunsHaveNoMore =
    (job : Job) (start : Key → Account) (ks : List Key) → IsLawful job → IsStart job start ks →
    (n : ℕ) → n ≤ job.count → lamports_under (serial job start n) ks ≤ lamports_under start ks

-- each of its accounts stays short and settled
abbrev pub SerialRunsFit : Type 0
SerialRunsFit =
    (job : Job) (start : Key → Account) (ks : List Key) → IsLawful job → IsStart job start ks →
    (n : ℕ) → n ≤ job.count →
    (key : Key) → IsShort (serial job start n key) × IsSettled (serial job start n key)

-- a position changes the lamports by what it writes, less what it was lent for writing
abbrev pub LamportsMove : Type 0
LamportsMove =
    (job : Job) (start : Key → Account) (ks : List Key) → IsLawful job → IsStart job start ks →
    (n : ℕ) → n < job.count →
    lamports_under (serial job start (suc n)) ks
    + lamports_in (lent_for_writing (job.locks n) (map (serial job start n) (keys job n)))
    ≡ lamports_under (serial job start n) ks
    + lamports_in (performed job (serial job start n) n).written

-- a key that no position writes keeps its account
abbrev pub UnwrittenStays : Type 0
UnwrittenStays =
    (job : Job) (start : Key → Account) (key : Key) (n : ℕ) →
    ((i : ℕ) → i < n → writes job i key ≡ false) → serial job start n key ≡ start key

-- the serial run of a lawful work as a state has the accounts of the serial run
abbrev pub StatesRunSerially : Type 0
StatesRunSerially =
    (job : Job) (start : state.State) → IsLawful job → IsState start →
    (n : ℕ) → n ≤ job.count →
    (key : Key) → state.at (serial_state job start n) key ≡ serial job (state.at start) n key

-- it stays a state
abbrev pub SerialStatesAreStates : Type 0
SerialStatesAreStates =
    (job : Job) (start : state.State) → IsLawful job → IsState start →
    (n : ℕ) → n ≤ job.count → IsState (serial_state job start n)

-- and its sum changes by what each position writes, less what it was lent for writing
abbrev pub SumsMove : Type 0
SumsMove =
    (job : Job) (start : state.State) → IsLawful job → IsState start →
    (n : ℕ) → n < job.count →
    state.sum (serial_state job start (suc n))
    + lamports_in
    (lent_for_writing (job.locks n) (map (serial job (state.at start) n) (keys job n)))
    ≡ state.sum (serial_state job start n)
    + lamports_in (performed job (serial job (state.at start) n) n).written
