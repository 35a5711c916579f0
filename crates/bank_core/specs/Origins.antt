-- What a core began with, and its state after a list of events.
use Rattle.std.specs.Prelude.{ℕ, List}
use Rattle.account_store.specs.State.{at}
use Rattle.bank_law.specs.declared.event.Event.{Event}
use Rattle.bank_law.specs.Job.{Job}
use Rattle.bank_law.specs.Machine as machine
use Rattle.bank_core.specs.declared.origin.Origin.{Origin}

module _ {T : Type 0} (job : T → Job) (origin : Origin T) where
  -- the state of the core machine after the events
  abbrev pub state_after : List Event → machine.State
  state_after events = machine.Run (job origin.told) (at origin.start) events

  -- the list of events is legal
  abbrev pub IsLegalFor : List Event → Type 0
  IsLegalFor events = machine.IsLegal (job origin.told) (at origin.start) events

  -- all positions are done after it
  abbrev pub AllDoneAfter : List Event → Type 0
  AllDoneAfter events = machine.AllDone (job origin.told) (state_after events)

  -- the position is ready after it, and none before it is
  abbrev pub IsLeastReadyAfter : List Event → ℕ → Type 0
  IsLeastReadyAfter events i = machine.IsLeastReady (job origin.told) (state_after events) i
