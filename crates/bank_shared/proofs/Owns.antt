-- The events of some lanes, as the history grows.
use Rattle.std.proofs.Common.{◌≡◌, ℕ, zero, suc, ◌+◌, ◌<◌, ◌≤◌, List, [], ◌∷◌, ◌++◌, Bool, true, false, ◌||◌, cond, eqb, eq-eqb, ne_eqb, refl, ap, ◌∙◌, arith, All, append-nil}
use Rattle.std.specs.List.{AllPass, range_with_len}
use Rattle.std.proofs.lemmas.Bool.{cond-true, cond-false}
use Rattle.std.proofs.lemmas.List.Elements.{filter-append, All-cons, All-head, All-tail, All-weaker}
use mathlib.Core.List.{IsPrefix}
use mathlib.Core.Logic.{dite}
use native.Mathlib.Decide.{ℕ_discrete}
use base.Growing.{prefix_trans}
use Rattle.bank_law.specs.declared.event.Event.{Event}
use Rattle.bank_core.proofs.Lanes.{same_own}
use Rattle.bank_shared.specs.declared.view.Part.{Part}
use Rattle.bank_shared.specs.History.{own, own_of, is_one_of, Covers}
use Rattle.bank_shared.specs.Rule.{times, part_lanes}
use Rattle.bank_shared.proofs.Sums.{sum_append}

-- a list with one item more begins with what the list begins with
pub prefix_more : {A : Type 0} (xs ys zs : List A) → IsPrefix xs ys → IsPrefix xs (ys ++ zs)
prefix_more xs ys zs p = prefix_trans xs ys (ys ++ zs) p (zs, refl)

none_step : (b rest : Bool) (n : ℕ) → cond {A = ℕ} b 1 0 + n ≡ 0 → (n ≡ 0 → rest ≡ false) → (b || rest) ≡ false
none_step true rest n z f = absurd (omega arith)
none_step false rest n z f = f (omega arith)

some_step : (b rest : Bool) (n : ℕ) → (b || rest) ≡ true → (rest ≡ true → 1 ≤ n) → 1 ≤ cond {A = ℕ} b 1 0 + n
some_step true rest n is f = omega arith
some_step false rest n is f = let r : 1 ≤ n = f is in omega arith

-- a lane that stands nowhere is none of these, and one of these stands somewhere
pub none_of : (l : ℕ) (lanes : List ℕ) → times l lanes ≡ 0 → is_one_of lanes l ≡ false
none_of l [] z = refl
none_of l (k ∷ ks) z = none_step (eqb k l) (is_one_of ks l) (times l ks) z (none_of l ks)

pub one_stands : (l : ℕ) (lanes : List ℕ) → is_one_of lanes l ≡ true → 1 ≤ times l lanes
one_stands l [] is = absurd (cc is)
one_stands l (k ∷ ks) is = some_step (eqb k l) (is_one_of ks l) (times l ks) is (one_stands l ks)

-- how often a lane stands among some in a row
pub times_before : (l a n : ℕ) → l < a → times l (range_with_len a n) ≡ 0
times_before l a zero less = refl
times_before l a (suc n) less = omega (arith, ap (λ b. cond {A = ℕ} b 1 0) (ne_eqb a l (λ is. omega (arith, is, less))), times_before l (a + 1) n (omega (arith, less)))

pub times_behind : (l a n : ℕ) → a + n ≤ l → times l (range_with_len a n) ≡ 0
times_behind l a zero past = refl
times_behind l a (suc n) past = omega (arith, ap (λ b. cond {A = ℕ} b 1 0) (ne_eqb a l (λ is. omega (arith, is, past))), times_behind l (a + 1) n (omega (arith, past)))

pub times_in : (l a n : ℕ) → a ≤ l → l < a + n → times l (range_with_len a n) ≡ 1
times_in l a zero from below = absurd (omega (arith, from, below))
times_in l a (suc n) from below = dite (ℕ_discrete a l)
    (λ is. omega (arith, ap (λ b. cond {A = ℕ} b 1 0) (eq-eqb a l is), times_before l (a + 1) n (omega (arith, is))))
    (λ not. omega (arith, ap (λ b. cond {A = ℕ} b 1 0) (ne_eqb a l not), times_in l (a + 1) n (omega (arith, not, from)) (omega (arith, below))))

-- no lanes have no events
pub no_lanes : (h : List Event) → own_of h [] ≡ []
no_lanes [] = refl
no_lanes (e ∷ h) = no_lanes h

-- events of no such lane, and of such lanes alone
pub own_of_none : (lanes : List ℕ) (more : List Event) → All (λ e. times e.lane lanes ≡ 0) more → own_of more lanes ≡ []
own_of_none lanes [] all = refl
own_of_none lanes (e ∷ es) all =
    cond-false (is_one_of lanes e.lane) (e ∷ own_of es lanes) (own_of es lanes) (none_of e.lane lanes (All-head (λ (x : Event). times x.lane lanes ≡ 0) e es all))
    ∙ own_of_none lanes es (All-tail (λ (x : Event). times x.lane lanes ≡ 0) e es all)

pub own_of_all : (lanes : List ℕ) (more : List Event) → AllPass (λ e. is_one_of lanes e.lane) more → own_of more lanes ≡ more
own_of_all lanes [] all = refl
own_of_all lanes (e ∷ es) all =
    cond-true (is_one_of lanes e.lane) (e ∷ own_of es lanes) (own_of es lanes) (All-head (λ (x : Event). is_one_of lanes x.lane ≡ true) e es all)
    ∙ ap (λ l. e ∷ l) (own_of_all lanes es (All-tail (λ (x : Event). is_one_of lanes x.lane ≡ true) e es all))

-- what covers a history covers it with events of other lanes
pub grows : (h more : List Event) (lanes : List ℕ) (seen : List Event) → Covers h lanes seen → All (λ e. times e.lane lanes ≡ 0) more → Covers (h ++ more) lanes seen
grows h more lanes seen c none = record {
  longer = prefix_more seen h more c.longer;
  own = filter-append (λ (e : Event). is_one_of lanes e.lane) h more ∙ (ap (λ l. own_of h lanes ++ l) (own_of_none lanes more none) ∙ (append-nil (own_of h lanes) ∙ c.own));
}

pub parts_grow : (h more : List Event) (parts : List Part) → All (λ e. times e.lane (part_lanes parts) ≡ 0) more
    → All (λ p. Covers h p.lanes p.seen) parts → All (λ p. Covers (h ++ more) p.lanes p.seen) parts
parts_grow h more [] none all = λ i d lt. absurd (omega arith)
parts_grow h more (p ∷ ps) none all =
    let split : (e : Event) → times e.lane (p.lanes ++ part_lanes ps)
    ≡ times e.lane p.lanes + times e.lane (part_lanes ps) = λ e. sum_append
    (λ k. cond {A = ℕ} (eqb k e.lane) 1 0) p.lanes (part_lanes ps) in
    let here : All (λ e. times e.lane p.lanes ≡ 0) more = All-weaker
    (λ (e : Event). times e.lane (p.lanes ++ part_lanes ps) ≡ 0) (λ (e : Event). times e.lane p.lanes ≡ 0)
    (λ e z. omega (arith, z, split e)) more none in
    let there : All (λ e. times e.lane (part_lanes ps) ≡ 0) more = All-weaker
    (λ (e : Event). times e.lane (p.lanes ++ part_lanes ps) ≡ 0)
    (λ (e : Event). times e.lane (part_lanes ps) ≡ 0) (λ e z. omega (arith, z, split e)) more none in
    All-cons (λ (q : Part). Covers (h ++ more) q.lanes q.seen) p ps
    (grows h more p.lanes p.seen (All-head (λ (q : Part). Covers h q.lanes q.seen) p ps all) here)
    (parts_grow h more ps there (All-tail (λ (q : Part). Covers h q.lanes q.seen) p ps all))

-- of one of the lanes, what covers them has all
pub covered : (h : List Event) (lanes : List ℕ) (seen : List Event) (l : ℕ) → Covers h lanes seen → is_one_of lanes l ≡ true → own h l ≡ own seen l
covered h lanes seen l c is = same_own lanes seen h l c.own is
