-- What a loan whose values are let go still says.
use Rattle.std.proofs.Common.{◌≡◌, ℕ, List, map, ap, subst, subst₂, ◌∙◌}
use Rattle.sol_base.specs.declared.account.Account.{Account}
use Rattle.account_store.specs.State.{at}
use Rattle.bank_law.specs.Job.{Job, JobEffects, keys}
use Rattle.bank_law.specs.Serial.{serial}
use Rattle.bank_core.specs.declared.origin.Origin.{Origin}

-- effects on the values that were lent are effects on those that the serial run has
pub spent_right : {T : Type 0} (job : T → Job) (lent desk core : Origin T) (effects : JobEffects) (position p : ℕ) (values : List Account)
    → lent ≡ desk → desk ≡ core → position ≡ p → values ≡ map (serial (job lent.told) (at lent.start) position) (keys (job lent.told) position)
    → effects ≡ (job desk.told).effects position values
    → effects ≡ (job core.told).effects p (map (serial (job core.told) (at core.start) p) (keys (job core.told) p))
spent_right job lent desk core effects position p values same here is_p values_are right =
    let due = subst (λ o. values ≡ map (serial (job o.told) (at o.start) position) (keys (job o.told) position)) same values_are in
    subst₂ (λ o q. effects ≡ (job o.told).effects q (map (serial (job o.told) (at o.start) q) (keys (job o.told) q))) here is_p (right ∙ ap ((job desk.told).effects position) due)
