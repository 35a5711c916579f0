-- The events of lanes, one event more.
use Rattle.std.proofs.Common.{◌≡◌, ℕ, zero, suc, ◌+◌, ◌<◌, ◌≤◌, ◌==◌, Bool, true, false, cond, inl, inr, List, [], ◌∷◌, ◌++◌, All, Option, Some, None, refl, sym, ◌∙◌, ap, arith, ne_eqb, eq-eqb, append-nil}
use Rattle.std.specs.Prelude.{option_and_then}
use Rattle.std.specs.List.{last_or}
use Rattle.std.proofs.lemmas.Bool.{cases_eq, cond-true, cond-false}
use Rattle.std.proofs.lemmas.List.Elements.{All-head, All-tail, filter-append}
use Rattle.std.proofs.lemmas.List.Sums.{sum_by-append, sum_by-cons}
use Rattle.bank_law.specs.declared.event.Event.{Event}
use Rattle.bank_law.specs.History.{own, holds, held_after, is_return, returns}
use Rattle.bank_law.specs.Laws.{OwnGrows, OwnOfOthersStays, HoldsByTheLast, ReturnsAreFew}
use Rattle.bank_law.proofs.Counts.{one_if}

-- one event more, of this lane, and of another
pub own_same : (events : List Event) (e : Event) (lane : ℕ) → e.lane ≡ lane → own (events ++ e ∷ []) lane ≡ own events lane ++ e ∷ []
own_same events e lane same =
    filter-append (λ (event : Event). event.lane == lane) events (e ∷ []) ∙ ap (λ es. own events lane ++ es) (cond-true (e.lane == lane) (e ∷ []) [] (eq-eqb e.lane lane same))

pub own_other : (events : List Event) (e : Event) (lane : ℕ) → (e.lane ≡ lane → ⊥) → own (events ++ e ∷ []) lane ≡ own events lane
own_other events e lane other =
    filter-append (λ (event : Event). event.lane == lane) events (e ∷ [])
    ∙ (ap (λ es. own events lane ++ es) (cond-false (e.lane == lane) (e ∷ []) [] (ne_eqb e.lane lane other))
    ∙ append-nil (own events lane))

-- no event of a lane where all are of lanes below
pub own_none : (lanes : ℕ) (events : List Event) (lane : ℕ) → All (λ e. e.lane < lanes) events → lanes ≤ lane → own events lane ≡ []
own_none lanes [] lane below l = refl
own_none lanes (e ∷ es) lane below l =
    let first = All-head (λ (event : Event). event.lane < lanes) e es below in
    cond-false (e.lane == lane) (e ∷ own es lane) (own es lane)
    (ne_eqb e.lane lane (λ q. omega (arith, first, l, q)))
    ∙ own_none lanes es lane (All-tail (λ (event : Event). event.lane < lanes) e es below) l

pub last_push : (d : Option Event) (events : List Event) (e : Event) → last_or d (events ++ e ∷ []) ≡ Some e
last_push d [] e = refl
last_push d (x ∷ xs) e = last_push (Some x) xs e

-- what is held after one event more
pub holds_push : (mine : List Event) (e : Event) → holds (mine ++ e ∷ []) ≡ held_after e.kind e.position
holds_push mine e = ap (λ last. option_and_then (λ (event : Event). held_after event.kind event.position) last) (last_push None mine e)

pub own_grows : OwnGrows
own_grows events kind lane i =
    own_same events (record { kind = kind; lane = lane; position = i }) lane refl

pub own_stays : OwnOfOthersStays
own_stays events kind lane i other n =
    own_other events (record { kind = kind; lane = lane; position = i }) other n

pub holds_last : HoldsByTheLast
holds_last mine kind lane i =
    holds_push mine (record { kind = kind; lane = lane; position = i })

pub returns_push : (mine : List Event) (e : Event) → returns (mine ++ e ∷ []) ≡ returns mine + one_if (is_return e.kind)
returns_push mine e = let a = sum_by-append (λ (event : Event). one_if (is_return event.kind)) mine (e ∷ []) in omega (arith, a)

-- f of each number below n, added up
sum_to : (ℕ → ℕ) → ℕ → ℕ
sum_to f zero = 0
sum_to f (suc n) = f n + sum_to f n

sum_none : (n : ℕ) → sum_to (λ i. 0) n ≡ 0
unfolding sum_to
sum_none zero = refl
sum_none (suc n) = let rest = sum_none n in omega (arith, rest)

sum_zero : (f : ℕ → ℕ) (n : ℕ) → ((i : ℕ) → i < n → f i ≡ 0) → sum_to f n ≡ 0
unfolding sum_to
sum_zero f zero none = refl
sum_zero f (suc n) none = let here = none n (omega arith) in let rest = sum_zero f n (λ i l. none i (omega arith)) in omega (arith, here, rest)

-- as much as one number has
sum_once : (m c n : ℕ) → m < n → sum_to (λ i. cond (m == i) c 0) n ≡ c
unfolding sum_to
sum_once m c zero l = absurd (omega arith)
sum_once m c (suc n) l =
    elim (cases_eq m n) [
      | inl e ↦
          let here = cond-true (m == n) c 0 (eq-eqb m n e) in
          let rest = sum_zero (λ i. cond (m == i) c 0) n (λ i k. cond-false (m == i) c 0 (ne_eqb m i (λ q. omega (arith, e, q, k)))) in
          omega (arith, here, rest)
      | inr d ↦
          let here = cond-false (m == n) c 0 (ne_eqb m n d) in
          let rest = sum_once m c n (omega (arith, l, d)) in
          omega (arith, here, rest)
    ]

sum_add : (f g h : ℕ → ℕ) (n : ℕ) → ((i : ℕ) → h i ≡ f i + g i) → sum_to h n ≡ sum_to f n + sum_to g n
unfolding sum_to
sum_add f g h zero same = refl
sum_add f g h (suc n) same = let a = same n in let b = sum_add f g h n same in omega (arith, a, b)

sum_most : (f : ℕ → ℕ) (n : ℕ) → ((i : ℕ) → f i ≤ 1) → sum_to f n ≤ n
unfolding sum_to
sum_most f zero most = omega arith
sum_most f (suc n) most = let a = most n in let b = sum_most f n most in omega (arith, a, b)

by_lanes : (lanes : ℕ) (events : List Event) → All (λ e. e.lane < lanes) events → returns events ≡ sum_to (λ lane. returns (own events lane)) lanes
by_lanes lanes [] below = sym (sum_none lanes)
by_lanes lanes (e ∷ es) below =
    let c : ℕ = one_if (is_return e.kind) in
    let one = sum_by-cons (λ (event : Event). one_if (is_return event.kind)) e es in
    let rest = by_lanes lanes es (All-tail (λ (event : Event). event.lane < lanes) e es below) in
    let here = sum_once e.lane c lanes (All-head (λ (event : Event). event.lane < lanes) e es below) in
    let all = sum_add (λ lane. cond (e.lane == lane) c 0) (λ lane. returns (own es lane)) (λ lane. returns (own (e ∷ es) lane)) lanes (λ lane. at_lane (e.lane == lane) (own es lane)) in
    omega (arith, one, rest, here, all)
  where
    at_lane : (b : Bool) (mine : List Event) → returns (cond b (e ∷ mine) mine) ≡ cond b (one_if (is_return e.kind)) 0 + returns mine
    at_lane true mine = let one = sum_by-cons (λ (event : Event). one_if (is_return event.kind)) e mine in omega (arith, one)
    at_lane false mine = omega arith

-- where each lane returned at most once, there are at most as many returns as lanes
pub returns_few : ReturnsAreFew
returns_few lanes events below once = let e = by_lanes lanes events below in let m = sum_most (λ lane. returns (own events lane)) lanes once in omega (arith, e, m)
