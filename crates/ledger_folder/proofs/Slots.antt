-- Lists of slots that ascend, and names.
use Rattle.std.proofs.Common.{◌≡◌, ℕ, ◌<◌, List, [], ◌∷◌, ◌++◌, true, false, ◌||◌, ◌==◌, ⊎_elim, refl, sym, ◌∙◌, ap, subst, arith, eq-eqb, eqb-true, ne_eqb}
use Rattle.std.specs.List.{AllByRecursion}
use Rattle.std.proofs.lemmas.Bool.{false≢true, or_from, or_left, cases_Bool, cases_order, both_ways}
use Rattle.std.proofs.lemmas.List.Folds.{list_any-append}
use Rattle.ledger_folder.specs.declared.name.Name.{Name}
use Rattle.ledger_folder.specs.declared.name.Name.TheVariants.{Chain, State, Changes, Block}
use Rattle.ledger_folder.specs.Names.{same_name, Ascends, has_slot}
use Rattle.ledger_folder.specs.Files.{Disk, Lists}

-- ---- slots
-- a slot below all of these is none of them
pub absent_below : (low : ℕ) (slots : List ℕ) (slot : ℕ) → AllByRecursion (λ later. low < later) slots → slot < low → has_slot slots slot ≡ false
absent_below low [] slot above below = refl
absent_below low (one ∷ slots) slot above below = or_from (one == slot) (has_slot slots slot) (ne_eqb one slot (λ e. omega (arith, e, above.0, below))) (absent_below low slots slot above.1 below)

-- the first is there
first_there : (slot : ℕ) (slots : List ℕ) → has_slot (slot ∷ slots) slot ≡ true
first_there slot slots = or_left (slot == slot) (has_slot slots slot) (eq-eqb slot slot refl)

-- one below the first is not there
below_first : (x y : ℕ) (ys : List ℕ) → AllByRecursion (λ later. y < later) ys → x < y → has_slot (y ∷ ys) x ≡ false
below_first x y ys above below = or_from (y == x) (has_slot ys x) (ne_eqb y x (λ e. omega (arith, e, below))) (absent_below y ys x above below)

-- lists that ascend and have the same slots begin with the same
same_first : (x y : ℕ) (xs ys : List ℕ) → Ascends (x ∷ xs) → Ascends (y ∷ ys) → ((slot : ℕ) → has_slot (x ∷ xs) slot ≡ has_slot (y ∷ ys) slot) → x ≡ y
same_first x y xs ys a b same =
    ⊎_elim (λ e. e) (λ apart. ⊎_elim (λ low. absurd (both_ways (has_slot (y ∷ ys) x) (below_first x y ys b.0 low) (sym (same x) ∙ first_there x xs)))
    (λ high. absurd (both_ways (has_slot (x ∷ xs) y) (below_first y x xs a.0 high) (same y ∙ first_there y ys))) apart) (cases_order x y)

-- a slot above the first is there where it is among the others
behind_first : (x slot : ℕ) (xs : List ℕ) → (x == slot) ≡ false → has_slot (x ∷ xs) slot ≡ has_slot xs slot
behind_first x slot xs apart = grind (arith, apart)

same_others : (x : ℕ) (xs ys : List ℕ) → Ascends (x ∷ xs) → Ascends (x ∷ ys) → ((slot : ℕ) → has_slot (x ∷ xs) slot ≡ has_slot (x ∷ ys) slot) → (slot : ℕ) → has_slot xs slot ≡ has_slot ys slot
same_others x xs ys a b same slot =
    ⊎_elim (λ e. let at : x ≡ slot = eqb-true x slot e in none xs a.0 at ∙ sym (none ys b.0 at))
    (λ apart. sym (behind_first x slot xs apart) ∙ same slot ∙ behind_first x slot ys apart) (cases_Bool (x == slot))
  where
    -- the first is not among the others
    none : (zs : List ℕ) → AllByRecursion (λ later. x < later) zs → x ≡ slot → has_slot zs slot ≡ false
    none [] above at = refl
    none (z ∷ zs) above at = or_from (z == slot) (has_slot zs slot) (ne_eqb z slot (λ e. omega (arith, e, at, above.0))) (none zs above.1 at)

-- lists that ascend and have the same slots are the same
pub same_slots : (xs ys : List ℕ) → Ascends xs → Ascends ys → ((slot : ℕ) → has_slot xs slot ≡ has_slot ys slot) → xs ≡ ys
same_slots [] [] a b same = refl
same_slots [] (y ∷ ys) a b same = absurd (false≢true (same y ∙ first_there y ys))
same_slots (x ∷ xs) [] a b same = absurd (false≢true (sym (same x) ∙ first_there x xs))
same_slots (x ∷ xs) (y ∷ ys) a b same =
    let first : x ≡ y = same_first x y xs ys a b same in
    let up : Ascends (x ∷ ys) = subst (λ (z : ℕ). Ascends (z ∷ ys)) (sym first) b in
    let also : (slot : ℕ) → has_slot (x ∷ xs) slot ≡ has_slot (x ∷ ys) slot = subst (λ (z : ℕ). (slot : ℕ) → has_slot (x ∷ xs) slot ≡ has_slot (z ∷ ys) slot) (sym first) same in
    let others : xs ≡ ys = same_slots xs ys a.1 b.1 (same_others x xs ys a up also) in
    λ i. first i ∷ others i

-- files list one list of slots
pub one_listing : (disk : Disk) (xs ys : List ℕ) → Lists disk xs → Lists disk ys → xs ≡ ys
one_listing disk xs ys a b = same_slots xs ys a.ascending b.ascending (λ slot. a.each slot ∙ sym (b.each slot))

-- a slot above all comes last
pub ascends-push : (slots : List ℕ) (slot : ℕ) → Ascends slots → AllByRecursion (λ one. one < slot) slots → Ascends (slots ++ slot ∷ [])
ascends-push [] slot a below = (tt, tt)
ascends-push (one ∷ slots) slot a below = (above slots a.0, ascends-push slots slot a.1 below.1)
  where
    above : (zs : List ℕ) → AllByRecursion (λ later. one < later) zs → AllByRecursion (λ later. one < later) (zs ++ slot ∷ [])
    above [] h = (below.0, tt)
    above (z ∷ zs) h = (h.0, above zs h.1)

pub has_slot-push : (slots : List ℕ) (slot one : ℕ) → has_slot (slots ++ slot ∷ []) one ≡ (has_slot slots one || ((slot == one) || false))
has_slot-push slots slot one = list_any-append (λ other. other == one) slots (slot ∷ [])

-- ---- names
pub same_name-self : (name : Name) → same_name name name ≡ true
same_name-self Chain = refl
same_name-self (State slot) = eq-eqb slot slot refl
same_name-self (Changes slot) = eq-eqb slot slot refl
same_name-self (Block slot) = eq-eqb slot slot refl

-- names that are tested the same are the same
pub same_name-true : (a b : Name) → same_name a b ≡ true → a ≡ b
same_name-true Chain Chain h = refl
same_name-true Chain (State t) h = absurd (false≢true h)
same_name-true Chain (Changes t) h = absurd (false≢true h)
same_name-true Chain (Block t) h = absurd (false≢true h)
same_name-true (State s) Chain h = absurd (false≢true h)
same_name-true (State s) (State t) h = ap State (eqb-true s t h)
same_name-true (State s) (Changes t) h = absurd (false≢true h)
same_name-true (State s) (Block t) h = absurd (false≢true h)
same_name-true (Changes s) Chain h = absurd (false≢true h)
same_name-true (Changes s) (State t) h = absurd (false≢true h)
same_name-true (Changes s) (Changes t) h = ap Changes (eqb-true s t h)
same_name-true (Changes s) (Block t) h = absurd (false≢true h)
same_name-true (Block s) Chain h = absurd (false≢true h)
same_name-true (Block s) (State t) h = absurd (false≢true h)
same_name-true (Block s) (Changes t) h = absurd (false≢true h)
same_name-true (Block s) (Block t) h = ap Block (eqb-true s t h)
