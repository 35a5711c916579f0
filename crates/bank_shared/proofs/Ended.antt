-- What a desk is closed with.
use Rattle.std.proofs.Common.{◌≡◌, List, ◌++◌, ap, sym, ◌∙◌, subst, append-nil}
use mathlib.Core.List.{IsPrefix}
use Rattle.account_store.specs.State.{at}
use Rattle.bank_law.specs.declared.event.Event.{Event}
use Rattle.bank_law.specs.Job.{Job}
use Rattle.bank_law.proofs.Ends.{all_done_ends}
use Rattle.bank_core.specs.declared.origin.Origin.{Origin}
use Rattle.bank_core.specs.Origins.{IsLegalFor, AllDoneAfter}

-- nothing happened after all positions were done
pub ended : {T : Type 0} (job : T → Job) (origin desk : Origin T) (seen journal : List Event) → origin ≡ desk
    → IsLegalFor job origin journal → IsPrefix seen journal → AllDoneAfter job desk seen → journal ≡ seen
ended job origin desk seen journal same legal more done =
    let here = subst (λ o. IsLegalFor job o journal) same legal in
    let parts = subst (λ events. IsLegalFor job desk events) (sym more.1) here in
    let none = all_done_ends (job desk.told) (at desk.start) seen more.0 parts done in
    sym more.1 ∙ (ap (λ rest. seen ++ rest) none ∙ append-nil seen)
