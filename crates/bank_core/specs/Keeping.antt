-- What a core keeps.
use Rattle.std.specs.Prelude.{◌≡◌, ℕ, ◌+◌, ◌*◌, ◌^◌, ◌<◌, ◌≤◌, if◌then◌else◌, List, length, slice_index_or, All, Option, Some, None, vec_len, vec_capacity}
use Rattle.std.specs.List.{IsDistinct}
use Rattle.std.specs.declared.vec.Vec.{Vec}
use Rattle.std.specs.declared.alloc.Global.{Global}
use Rattle.sol_base.specs.declared.key.Key.{Key}
use Rattle.sol_base.specs.declared.account.Account.{Account}
use Rattle.sol_base.specs.Accounts.{empty_account}
use Rattle.tx_report.specs.declared.outcome.Outcome.{Outcome}
use Rattle.account_store.specs.State.{State, at, IsState}
use Rattle.bank_law.specs.declared.event.Event.{Event}
use Rattle.bank_law.specs.Job.{Job, same_key, has_key}
use Rattle.lock_table.specs.Numbers.{numbered_key}
use Rattle.bank_law.specs.Lawful.{IsLawful, IsStart}
use Rattle.bank_law.specs.Serial.{serial}
use Rattle.bank_law.specs.Machine.{Stage, waiting, held, done, IsLegal, Run}
use Rattle.bank_law.specs.History.{own, holds}
use Rattle.bank_law.specs.History.{returns}
use Rattle.prio_graph.specs.Ready.{Positions}
use Rattle.prio_graph.specs.Laws.{IsOf}
use Rattle.bank_core.specs.Slots.{Shared, account_at, in_slot}
use Rattle.bank_core.specs.Counts.{max_lane_numbers}

-- the outcome of a position, once it is done
abbrev pub outcome_of : Stage → Option Outcome
outcome_of waiting = None
outcome_of (held lane vs) = None
outcome_of (done outcome) = Some outcome

-- positions, slots and outcomes are those of the state after the journal, which is legal
pub record Keeps (job : Job) (start : Key → Account) (ks : List Key) (p : Positions)
    (slots : List (Option Shared)) (outcomes : List (Option Outcome))
    (journal : List Event) : Type 0 where
  pub legal : IsLegal job start journal
  pub distinct : IsDistinct same_key ks
  pub of : IsOf ks job (Run job start journal) p
  pub slots_length : length slots ≡ length ks
  pub stored : (n : ℕ) → n < length ks
      → account_at slots n ≡ (Run job start journal).store (numbered_key ks n)
  pub outcomes_length : length outcomes ≡ job.count
  pub kept : (i : ℕ) → i < job.count
      → slice_index_or outcomes i None ≡ outcome_of ((Run job start journal).stage i)

-- the accounts of other keys stand apart
pub record IsApart (start rest : State) (ks : List Key) : Type 0 where
  pub is_start : IsState start
  pub is_rest : IsState rest
  pub at_rest : (key : Key) → at rest key ≡ (if has_key key ks then empty_account else at start key)

-- the journal has room for all that may come: its events are of the core's lanes, each of which
-- returned at most once
pub record HasRoom (count lanes capacity : ℕ) (journal : List Event) : Type 0 where
  pub few : count < 2 ^ 32
  pub most : lanes ≤ max_lane_numbers
  pub room : 4 * count + 4 * lanes ≤ capacity
  pub lanes_below : All (λ event. event.lane < lanes) journal
  pub once : (lane : ℕ) → returns (own journal lane) ≤ 1

-- there is room for the values of each position
abbrev pub IsWide : Job → ℕ → Type 0
IsWide job capacity = (i : ℕ) → i < job.count → length (job.locks i) ≤ capacity

-- a lane that holds nothing has an empty buffer that is wide enough
pub record HasBuffers (job : Job) (lanes : ℕ) (journal : List Event)
    (buffers : List (Vec Shared Global)) : Type 0 where
  pub buffers_length : length buffers ≡ lanes
  pub free : (lane : ℕ) (d : Vec Shared Global) → lane < lanes → holds (own journal lane) ≡ None
      → (vec_len (slice_index_or buffers lane d) ≡ 0)
      × IsWide job (vec_capacity (slice_index_or buffers lane d))

-- once all positions are done, each key has the account that the serial run ends with, and the
-- accounts of other keys stand apart
pub record AreEnds (job : Job) (start rest : State) (ks : List Key)
    (slots : List (Option Shared)) : Type 0 where
  pub lawful : IsLawful job
  pub starts : IsStart job (at start) ks
  pub apart : IsApart start rest ks
  pub slots_length : length slots ≡ length ks
  pub stored : (n : ℕ) → n < length ks
      → in_slot (account_at slots n) ≡ serial job (at start) job.count (numbered_key ks n)
