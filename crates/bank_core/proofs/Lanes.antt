-- What some lanes did, and what one of them did.
use Rattle.std.proofs.Common.{◌≡◌, ℕ, ◌-◌, List, [], ◌∷◌, ◌++◌, length, length-append, Bool, true, false, ◌||◌, cond, eqb, refl, sym, ap, ◌∙◌, arith}
use Rattle.std.specs.Prelude.{filter, take}
use Rattle.std.proofs.lemmas.Bool.{eqb-true}
use Rattle.std.proofs.Math.Seq.{take-append_seam}
use Rattle.bank_law.specs.declared.event.Event.{Event}
use Rattle.bank_law.specs.History.{own}
use Rattle.bank_core.specs.Lanes.{is_one_of, own_of, EachPartKeeps, EachLaneKeeps}
use Rattle.bank_core.specs.Desks.{before_last}

-- a history with one event more, before it
pub before_last_is : (events : List Event) (e : Event) → before_last (events ++ e ∷ []) ≡ events
before_last_is events e =
    let n : length (events ++ e ∷ []) - 1 ≡ length events = omega (arith, length-append events (e ∷ [])) in
    ap (λ k. take k (events ++ e ∷ [])) n ∙ take-append_seam events (e ∷ [])

-- what passes one test passes both, where it passes the other then
filter_within : (f g : Event → Bool) (h : List Event) → ((e : Event) → f e ≡ true → g e ≡ true) → filter f (filter g h) ≡ filter f h
filter_within f g [] imp = refl
filter_within f g (e ∷ h) imp = by_case (g e) (f e) refl refl (filter_within f g h imp)
  where
    by_case : (a b : Bool) → g e ≡ a → f e ≡ b → filter f (filter g h) ≡ filter f h → filter f (cond a (e ∷ filter g h) (filter g h)) ≡ cond b (e ∷ filter f h) (filter f h)
    by_case true true p q rest = ap (λ b. cond b (e ∷ filter f (filter g h)) (filter f (filter g h))) q ∙ ap (λ es. e ∷ es) rest
    by_case true false p q rest = ap (λ b. cond b (e ∷ filter f (filter g h)) (filter f (filter g h))) q ∙ rest
    by_case false true p q rest = absurd (cc (p, imp e q))
    by_case false false p q rest = rest

-- of one of the lanes, and of some of them, their events have all
pub own_in : (l : ℕ) (lanes : List ℕ) (h : List Event) → is_one_of lanes l ≡ true → own (own_of h lanes) l ≡ own h l
own_in l lanes h is = filter_within (λ e. eqb e.lane l) (λ e. is_one_of lanes e.lane) h (λ e q. ap (is_one_of lanes) (eqb-true e.lane l q) ∙ is)

own_of_in : (part whole : List ℕ) (h : List Event) → ((l : ℕ) → is_one_of part l ≡ true → is_one_of whole l ≡ true) → own_of (own_of h whole) part ≡ own_of h part
own_of_in part whole h in_all = filter_within (λ e. is_one_of part e.lane) (λ e. is_one_of whole e.lane) h (λ e. in_all e.lane)

pub part_keeps : EachPartKeeps
part_keeps part whole old new in_all same = sym (own_of_in part whole new in_all) ∙ (ap (λ es. own_of es part) same ∙ own_of_in part whole old in_all)

-- where nothing of the lanes is added, nothing of one of them is; and where one event is, none of
-- another one
pub same_own : (lanes : List ℕ) (old new : List Event) (l : ℕ) → own_of new lanes ≡ own_of old lanes → is_one_of lanes l ≡ true → own new l ≡ own old l
same_own lanes old new l same one = sym (own_in l lanes new one) ∙ (ap (λ es. own es l) same ∙ own_in l lanes old one)

pub lane_keeps : EachLaneKeeps
lane_keeps lane whole old new one same = same_own whole old new lane same one

or_after : (b rest : Bool) → rest ≡ true → (b || rest) ≡ true
or_after true rest is = refl
or_after false rest is = is

-- a lane of the one or of the other
pub is_one_after : (l : ℕ) (xs ys : List ℕ) → is_one_of ys l ≡ true → is_one_of (xs ++ ys) l ≡ true
is_one_after l [] ys is = is
is_one_after l (x ∷ xs) ys is = or_after (eqb x l) (is_one_of (xs ++ ys) l) (is_one_after l xs ys is)

pub is_one_within : (l : ℕ) (xs ys : List ℕ) → is_one_of (xs ++ ys) l ≡ (is_one_of xs l || is_one_of ys l)
is_one_within l [] ys = refl
is_one_within l (x ∷ xs) ys = or_step (eqb x l) (is_one_of (xs ++ ys) l) (is_one_of xs l) (is_one_of ys l) (is_one_within l xs ys)
  where
    or_step : (b both one other : Bool) → both ≡ (one || other) → (b || both) ≡ ((b || one) || other)
    or_step true both one other is = refl
    or_step false both one other is = is
