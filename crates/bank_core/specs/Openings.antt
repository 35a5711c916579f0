-- What is made of the locks of positions before a core is opened.
use Rattle.std.specs.Prelude.{◌≡◌, ℕ, ◌<◌, ◌≤◌, true, List, All, length, Option, IfSome}
use Rattle.std.specs.List.{IsDistinct}
use Rattle.sol_base.specs.declared.key.Key.{Key}
use Rattle.sol_base.specs.declared.lock.Lock.{Lock}
use Rattle.bank_law.specs.Job.{Job, same_key, has_key}
use Rattle.lock_table.specs.declared.locks.NumberedLock.{NumberedLock}
use Rattle.lock_table.specs.Numbers.{Numbers}
use Rattle.prio_graph.specs.Ready.{Positions, all_waiting, set_at}

-- the keys of locks stand in a list
abbrev pub AreKnown : List Key → List Lock → Type 0
AreKnown ks locks = All (λ lock. has_key lock.key ks ≡ true) locks

-- the set in a slot, if there is one, has these locks over the numbers of their keys
abbrev pub NumbersAt : List Key → List Lock → Option (List NumberedLock) → Type 0
NumbersAt ks locks slot = IfSome slot (λ set. Numbers ks locks set)

-- the keys of a job's locks have these numbers, its positions wait, and none has more locks than
-- there is room for
pub record AreNumbered (job : Job) (ks : List Key) (p : Positions) (room : ℕ) : Type 0 where
  pub distinct : IsDistinct same_key ks
  pub waiting : p ≡ all_waiting p.sets
  pub long : length p.sets ≡ job.count
  pub numbered : (i : ℕ) → i < job.count → Numbers ks (job.locks i) (set_at p.sets i)
  pub wide : (i : ℕ) → i < length p.sets → length (set_at p.sets i) ≤ room
