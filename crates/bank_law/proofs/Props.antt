-- Facts that can hold in one way only.
use Rattle.std.specs.Prelude.{ℕ, List, [], ◌∷◌}
use Rattle.std.specs.Coded.{×_prop, Unit-prop}
use Rattle.std.proofs.Props.{props}
use Rattle.std.proofs.lemmas.Map.Keys.{IsDistinct-prop}
use Rattle.sol_base.specs.declared.account.Account.{Account}
use Rattle.sol_base.specs.declared.lock.Lock.{Lock}
use Rattle.bank_law.specs.declared.event.Event.{Event}
use Rattle.bank_law.specs.declared.event.EventKind.{EventKind}
use Rattle.bank_law.specs.declared.event.EventKind.TheVariants.{Grant, Commit, Return}
use Rattle.bank_law.specs.Job.{Job}
use Rattle.bank_law.specs.Machine.{State, MayCome, after_event, IsLegalFrom}
use Rattle.bank_law.specs.Lawful.{Fits, IsLawful}

MayCome-prop : (job : Job) (s : State) (kind : EventKind) (lane i : ℕ) → IsProp (MayCome job s kind lane i)
MayCome-prop job s Grant lane i = hlevel props
MayCome-prop job s Commit lane i = hlevel props
MayCome-prop job s Return lane i = hlevel props

pub IsLegalFrom-prop : (job : Job) (s : State) (events : List Event) → IsProp (IsLegalFrom job s events)
IsLegalFrom-prop job s [] = Unit-prop
IsLegalFrom-prop job s (e ∷ es) = ×_prop (MayCome-prop job s e.kind e.lane e.position) (IsLegalFrom-prop job (after_event job s e) es)

pub Fits-prop : (locks : List Lock) (vs : List Account) → IsProp (Fits locks vs)
Fits-prop locks vs = hlevel props

pub IsLawful-prop : (job : Job) → IsProp (IsLawful job)
IsLawful-prop job = hlevel (props, IsDistinct-prop)
