-- What no lane holds, and how long a journal can grow.
use Rattle.std.proofs.Common.{◌≡◌, ℕ, ◌+◌, ◌*◌, ◌<◌, ◌≤◌, ◌==◌, Bool, true, false, cond, List, [], ◌∷◌, length, All, Option, Some, None, refl, sym, ◌∙◌, ap, inl, inr, arith, length-append}
use Rattle.std.proofs.lemmas.Bool.{cases_lt}
use Rattle.std.proofs.lemmas.List.Sums.{sum_by-cons}
use mathlib.Core.List.{IsPrefix}
use Rattle.sol_base.specs.declared.key.Key.{Key}
use Rattle.sol_base.specs.declared.account.Account.{Account}
use Rattle.bank_law.specs.declared.event.Event.{Event}
use Rattle.bank_law.specs.Job.{Job}
use Rattle.bank_law.specs.Machine.{Run, IsLegal, NothingHeld, is_held_by}
use Rattle.bank_law.specs.History.{own, holds, returns, is_return}
use Rattle.bank_law.proofs.Counts.{short, one_if}
use Rattle.bank_law.proofs.Histories.{own_none, returns_few}
use Rattle.bank_law.proofs.Lanes.{lanes_hold}

-- a lane holds nothing where nothing is held
pub holds_none : (job : Job) (start : Key → Account) (events : List Event) → IsLegal job start events → NothingHeld (Run job start events) → (lane : ℕ) → holds (own events lane) ≡ None
holds_none job start events legal free lane = by_case (holds (own events lane)) refl
  where
    by_case : (x : Option ℕ) → holds (own events lane) ≡ x → x ≡ None
    by_case None e = refl
    by_case (Some i) e = let t = (lanes_hold job start events legal lane i).1 e in let f = free lane i in absurd (cc)

-- and nothing is held where no lane holds anything
pub nothing_held : (job : Job) (start : Key → Account) (events : List Event) (lanes : ℕ) → IsLegal job start events → All (λ e. e.lane < lanes) events
    → ((lane : ℕ) → lane < lanes → holds (own events lane) ≡ None) → NothingHeld (Run job start events)
nothing_held job start events lanes legal below free lane i = by_case (is_held_by lane ((Run job start events).stage i)) refl
  where
    none : holds (own events lane) ≡ None
    none = elim (cases_lt lane lanes) [ inl l ↦ free lane l | inr l ↦ ap holds (own_none lanes events lane below l) ]

    by_case : (b : Bool) → is_held_by lane ((Run job start events).stage i) ≡ b → b ≡ false
    by_case false e = refl
    by_case true e = let t = (lanes_hold job start events legal lane i).0 e in let f = none in absurd (cc)

-- a lane returned no more often than all lanes together
pub own_returns : (events : List Event) (lane : ℕ) → returns (own events lane) ≤ returns events
own_returns [] lane = omega arith
own_returns (e ∷ es) lane = by_case (e.lane == lane) (own_returns es lane)
  where
    by_case : (b : Bool) → returns (own es lane) ≤ returns es → returns (cond b (e ∷ own es lane) (own es lane)) ≤ returns (e ∷ es)
    by_case true rest =
        let a = sum_by-cons (λ (event : Event). one_if (is_return event.kind)) e (own es lane) in
        let b = sum_by-cons (λ (event : Event). one_if (is_return event.kind)) e es in
        omega (arith, a, b, rest)
    by_case false rest = let b = sum_by-cons (λ (event : Event). one_if (is_return event.kind)) e es in omega (arith, b, rest)

-- a journal of lanes that returned at most once each
pub journal_most : (job : Job) (start : Key → Account) (events : List Event) (lanes : ℕ) → IsLegal job start events → All (λ e. e.lane < lanes) events
    → ((lane : ℕ) → returns (own events lane) ≤ 1) → length events ≤ 2 * job.count + 2 * lanes
journal_most job start events lanes legal below once =
    let a = short job start events legal in
    let b = returns_few lanes events below once in
    omega (arith, a, b)

pub prefix_length : {A : Type 0} (xs ys : List A) → IsPrefix xs ys → length xs ≤ length ys
prefix_length xs ys p = omega (arith, sym (ap length p.1) ∙ length-append xs p.0)
