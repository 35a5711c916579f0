-- A list of events that grows.
use Rattle.std.proofs.Common.{◌≡◌, List, [], ◌∷◌, ◌++◌, refl}
use Rattle.bank_law.specs.declared.event.Event.{Event}
use Rattle.bank_law.specs.Job.{Job}
use Rattle.bank_law.specs.Machine.{State, MayCome, after_event, after, IsLegalFrom}

pub after-append : (job : Job) (s : State) (events more : List Event) → after job s (events ++ more) ≡ after job (after job s events) more
after-append job s [] more = refl
after-append job s (e ∷ es) more = after-append job (after_event job s e) es more

-- a list of events is legal where its beginning is, and its end from there on
pub legal_append : (job : Job) (s : State) (events more : List Event) → IsLegalFrom job s events → IsLegalFrom job (after job s events) more → IsLegalFrom job s (events ++ more)
legal_append job s [] more l m = m
legal_append job s (e ∷ es) more l m = (l.0, legal_append job (after_event job s e) es more l.1 m)

pub legal_parts : (job : Job) (s : State) (events more : List Event) → IsLegalFrom job s (events ++ more) → IsLegalFrom job s events × IsLegalFrom job (after job s events) more
legal_parts job s [] more l = (tt, l)
legal_parts job s (e ∷ es) more l = let rest = legal_parts job (after_event job s e) es more l.1 in ((l.0, rest.0), rest.1)

-- one event more
pub after_push : (job : Job) (s : State) (events : List Event) (e : Event) → after job s (events ++ e ∷ []) ≡ after_event job (after job s events) e
after_push job s events e = after-append job s events (e ∷ [])

pub legal_push : (job : Job) (s : State) (events : List Event) (e : Event) → IsLegalFrom job s events → MayCome job (after job s events) e.kind e.lane e.position → IsLegalFrom job s (events ++ e ∷ [])
legal_push job s events e l m = legal_append job s events (e ∷ []) l (m, tt)
