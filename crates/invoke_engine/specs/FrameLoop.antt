-- The loop over frames: where it stands, and what its steps keep.
use Rattle.std.specs.Prelude.{◌≡◌, ℕ, ◌+◌, ◌*◌, ◌<◌, length, List}
use Rattle.invoke_engine.specs.Frame.{Fixed, Running, go, after, Ending, Next, Runs, Done}
use Rattle.invoke_engine.specs.Conditions.{AreSuspended, IsGoing, NextFits}
use Rattle.invoke_engine.specs.Suspended.{programs_of, rest}

-- the ending of the outermost of the frames that wait, where this is next
abbrev pub ending_in : Fixed → List Running → Next → Ending
ending_in s fs next = rest s fs (after (programs_of fs) (go s) next)

abbrev pub units_in : Next → ℕ
units_in (Runs f c) = f.machine.units
units_in (Done e) = e.units

abbrev pub Goes : Next → Type 0
Goes (Runs f c) = IsGoing f
Goes (Done e) = Unit {0}

-- what holds where the loop over the frames stands
pub record Stands (s : Fixed) (fs : List Running) (next : Next) : Type 0 where
  pub fits : NextFits (length s.keys) next
  pub goes : Goes next
  pub waiting : AreSuspended (length s.keys) (units_in next) fs
  pub height : length fs < s.setting.height

-- falls with each step of the loop
abbrev pub measure : List Running → Next → ℕ
measure fs (Runs f c) = 3 * f.machine.units + 2 * length fs + 1
measure fs (Done e) = 3 * e.units + 2 * length fs

-- a step of the loop
pub record Steps (s : Fixed) (fs : List Running) (next : Next) (fs' : List Running)
    (next' : Next) : Type 0 where
  pub stands : Stands s fs' next'
  pub same : ending_in s fs' next' ≡ ending_in s fs next
  pub falls : measure fs' next' < measure fs next
