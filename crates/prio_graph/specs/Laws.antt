-- The laws of the chained graph, and what ready means in the core machine.
use Rattle.std.specs.Prelude.{◌≡◌, ℕ, ◌<◌, ◌≤◌, ◌↔◌, true, List, length}
use Rattle.std.specs.List.{IsDistinct}
use Rattle.sol_base.specs.declared.key.Key.{Key}
use Rattle.bank_law.specs.Job.{Job, same_key}
use Rattle.bank_law.specs.Machine.{Stage, waiting, held, done, State, Ready}
use Rattle.lock_table.specs.declared.locks.NumberedLock.{NumberedLock}
use Rattle.lock_table.specs.Numbers.{Numbers}
use Rattle.prio_graph.specs.declared.mark.Mark.{Mark}
use Rattle.prio_graph.specs.declared.mark.Mark.TheVariants.{Waiting, Started, Done}
use Rattle.prio_graph.specs.Ready.{Positions, set_at, mark_at, EarlierDone, IsReady, is_ready}
use Rattle.prio_graph.specs.Chains.{edges_into, counter, StartedInOrder}
use Rattle.prio_graph.specs.Kept.{times}

-- a counter is 0 exactly where all earlier conflicting positions are done
abbrev pub CountersTell : Type 0
CountersTell =
    (sets : List (List NumberedLock)) (marks : List Mark) → StartedInOrder sets marks →
    (i : ℕ) → i < length sets → (counter sets marks i ≡ 0) ↔ EarlierDone sets marks i

-- there is at most one edge between two positions, however many numbers they share
abbrev pub EdgesAreSingle : Type 0
EdgesAreSingle = (sets : List (List NumberedLock)) (i j : ℕ) → times j (edges_into sets i) ≤ 1

-- the positions that are counted as ready are those that are
abbrev pub ReadyAreCounted : Type 0
ReadyAreCounted =
    (p : Positions) (i : ℕ) → i < length p.sets → (is_ready p i ≡ true) ↔ IsReady p i

-- the mark of a stage of the core machine
abbrev pub mark_of : Stage → Mark
mark_of waiting = Waiting
mark_of (held lane vs) = Started
mark_of (done outcome) = Done

-- the positions are those of a state of the core machine, with their keys numbered
pub record IsOf (keys : List Key) (job : Job) (s : State) (p : Positions) : Type 0 where
  pub count : length p.sets ≡ job.count
  pub numbered : (i : ℕ) → i < job.count → Numbers keys (job.locks i) (set_at p.sets i)
  pub marked : (i : ℕ) → i < job.count → mark_at p.marks i ≡ mark_of (s.stage i)

-- a position is ready there exactly where it is ready in the core machine
abbrev pub ReadyInTheMachine : Type 0
ReadyInTheMachine =
    (keys : List Key) → IsDistinct same_key keys → (job : Job) (s : State) (p : Positions)
    → IsOf keys job s p →
    (i : ℕ) → IsReady p i ↔ Ready job s i
