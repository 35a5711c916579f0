-- What a core keeps can hold in one way only.
use Rattle.std.specs.Prelude.{ℕ, List, Option}
use Rattle.std.specs.declared.vec.Vec.{Vec}
use Rattle.std.specs.declared.alloc.Global.{Global}
use Rattle.std.proofs.Props.{props}
use Rattle.std.proofs.lemmas.Map.Keys.{IsDistinct-prop}
use Rattle.sol_base.specs.declared.key.Key.{Key}
use Rattle.sol_base.specs.declared.account.Account.{Account}
use Rattle.tx_report.specs.declared.outcome.Outcome.{Outcome}
use Rattle.account_store.specs.State.{State}
use Rattle.bank_law.specs.declared.event.Event.{Event}
use Rattle.bank_law.specs.Job.{Job}
use Rattle.bank_law.proofs.Props.{IsLawful-prop, IsLegalFrom-prop}
use Rattle.prio_graph.specs.Ready.{Positions}
use Rattle.bank_core.specs.Slots.{Shared}
use Rattle.bank_core.specs.Keeping.{Keeps, IsApart, AreEnds, HasRoom, HasBuffers}

pub Keeps-prop : (job : Job) (start : Key → Account) (ks : List Key) (p : Positions)
    (slots : List (Option Shared)) (outcomes : List (Option Outcome)) (journal : List Event)
    → IsProp (Keeps job start ks p slots outcomes journal)
Keeps-prop job start ks p slots outcomes journal = hlevel (props, IsLegalFrom-prop, IsDistinct-prop)

pub IsApart-prop : (start rest : State) (ks : List Key) → IsProp (IsApart start rest ks)
IsApart-prop start rest ks = hlevel props

pub HasRoom-prop : (count lanes capacity : ℕ) (journal : List Event)
    → IsProp (HasRoom count lanes capacity journal)
HasRoom-prop count lanes capacity journal = hlevel props

pub HasBuffers-prop : (job : Job) (lanes : ℕ) (journal : List Event)
    (buffers : List (Vec Shared Global)) → IsProp (HasBuffers job lanes journal buffers)
HasBuffers-prop job lanes journal buffers = hlevel props

pub AreEnds-prop : (job : Job) (start rest : State) (ks : List Key)
    (slots : List (Option Shared)) → IsProp (AreEnds job start rest ks slots)
AreEnds-prop job start rest ks slots = hlevel (props, IsLawful-prop, IsDistinct-prop)
