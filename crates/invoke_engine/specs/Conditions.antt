-- What accounts, calls, frames and their turns have to be, by the number of the transaction's keys.
use Rattle.std.specs.Prelude.{◌≡◌, ℕ, ◌<◌, ◌≤◌, ◌^◌, None, List, [], ◌∷◌, length, MatchResult}
use Rattle.sol_base.specs.declared.key.Key.{Key}
use Rattle.sol_base.specs.declared.account.Account.{Account}
use Rattle.sol_base.specs.Accounts.{AreShort, lamports_in}
use Rattle.sol_base.specs.Metas.{AreInRange}
use Rattle.sbpf_machine.specs.Steps.{IsHelper}
use Rattle.abi_input.specs.Region.{max_input_len, max_metas, IsRegionOf}
use Rattle.invoke_engine.specs.declared.call.Call.{Call}
use Rattle.invoke_engine.specs.Frames.{Carried, Running, Callee, Ending, Next, Runs, Done, Turn, GoesOn, Calls, Leaves, height, max_trace}

-- as many accounts as keys, none too long, and together fewer than 2^64 lamports
pub record AreAccountsOf (n : ℕ) (accounts : List Account) : Type 0 where
  pub count : length accounts ≡ n
  pub short : AreShort accounts
  pub supply : lamports_in accounts < 2 ^ 64

-- its program and its accounts are there, and its data are not too long
pub record IsCall (count : ℕ) (call : Call) : Type 0 where
  pub program : call.program < count
  pub range : AreInRange count call.metas
  pub input : length call.input ≤ max_input_len

-- a frame in its middle: its list and accounts are there, and its region was laid out from the
-- accounts at its start
pub record IsFrame (count : ℕ) (f : Running) : Type 0 where
  pub most : length f.metas ≤ max_metas
  pub range : AreInRange count f.metas
  pub start : length f.start ≡ count
  pub before : AreAccountsOf count f.before
  pub region : IsRegionOf f.start f.metas f.machine.context.memory.input.bytes

-- a frame that waits for its callee stands at the system call
pub record IsSuspended (count : ℕ) (f : Running) : Type 0 where
  pub frame : IsFrame count f
  pub helper : IsHelper f.machine.stop

-- each of the frames that wait, the innermost first, and at its call each had at least the units of
-- those within it
abbrev pub AreSuspended : ℕ → ℕ → List Running → Type 0
AreSuspended n units [] = Unit {0}
AreSuspended n units (f ∷ fs) =
    IsSuspended n f × (units ≤ f.machine.units) × AreSuspended n f.machine.units fs

-- the machine of a frame does not stand at a stop
abbrev pub IsGoing : Running → Type 0
IsGoing f = f.machine.stop ≡ None

-- where a frame ended well, its accounts are as many as before and fit
abbrev pub EndingFits : ℕ → Ending → Type 0
EndingFits n e = MatchResult e.result (λ accounts. AreAccountsOf n accounts) (λ _. Unit {0})

-- a frame that runs is as it has to be
abbrev pub RunsFit : ℕ → Next → Type 0
RunsFit n (Runs f c) = IsFrame n f
RunsFit n (Done e) = Unit {0}

abbrev pub NextFits : ℕ → Next → Type 0
NextFits n (Runs f c) = IsFrame n f
NextFits n (Done e) = EndingFits n e

-- a call of another program: the caller is suspended, the call and the accounts fit, and one more
-- instruction and one more frame are allowed
pub record CallFits (n most : ℕ) (outer : List Key) (f : Running) (c : Carried)
    (callee : Callee) : Type 0 where
  pub suspended : IsSuspended n f
  pub call : IsCall n callee.call
  pub accounts : AreAccountsOf n callee.accounts
  pub trace : c.trace < max_trace
  pub height : height outer < most

abbrev pub TurnFits : ℕ → ℕ → List Key → Turn → Type 0
TurnFits n most outer (GoesOn f c) = IsFrame n f
TurnFits n most outer (Calls f c callee units) = CallFits n most outer f c callee
TurnFits n most outer (Leaves e) = EndingFits n e
