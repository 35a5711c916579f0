-- Conflict by numbers is conflict by keys.
use Rattle.std.proofs.Common.{◌≡◌, ◌<◌, ◌&&◌, ◌||◌, List, [], ◌∷◌, map, length, All, refl, sym, ◌∙◌, ap₂}
use Rattle.std.specs.List.{list_any, IsDistinct}
use Rattle.std.proofs.lemmas.List.Elements.{All-head, All-tail}
use Rattle.sol_base.specs.declared.key.Key.{Key}
use Rattle.bank_law.specs.Job.{same_key}
use Rattle.bank_law.specs.Machine.{meet, clash}
use Rattle.lock_table.specs.declared.locks.NumberedLock.{NumberedLock}
use Rattle.lock_table.specs.Numbers.{keyed_lock, meets, conflicts}
use Rattle.lock_table.specs.Laws.{ConflictIsClash}
use Rattle.lock_table.proofs.Tables.{equal_numbers}

module _ (keys : List Key) (distinct : IsDistinct same_key keys) where
  abbrev Within : List NumberedLock → Type 0
  Within set = All (λ lock. lock.number < length keys) set

  one_meets : (a : NumberedLock) (other : List NumberedLock) → a.number < length keys → Within other
      → list_any (λ b. meets a b) other
      ≡ list_any (λ b. meet (keyed_lock keys a) b) (map (keyed_lock keys) other)
  one_meets a [] l w = refl
  one_meets a (b ∷ bs) l w =
      ap₂ (λ s t. (s && (a.write || b.write)) || t)
      (sym (equal_numbers keys distinct a.number b.number l (All-head (λ lock. lock.number < length keys) b bs w)))
      (one_meets a bs l (All-tail (λ lock. lock.number < length keys) b bs w))

  all_meet : (one other : List NumberedLock) → Within one → Within other → conflicts one other ≡ clash (map (keyed_lock keys) one) (map (keyed_lock keys) other)
  all_meet [] other v w = refl
  all_meet (a ∷ rest) other v w =
      ap₂ (λ s t. s || t) (one_meets a other (All-head (λ lock. lock.number < length keys) a rest v) w) (all_meet rest other (All-tail (λ lock. lock.number < length keys) a rest v) w)

pub conflict_clash : ConflictIsClash
conflict_clash keys distinct one other first second n m =
    all_meet keys distinct first second n.within m.within ∙ ap₂ clash n.stands_for m.stands_for
