-- Accounts in slots by number.
use Rattle.std.specs.Prelude.{◌≡◌, ℕ, ◌==◌, Bool, true, not, ◌&&◌, if◌then◌else◌, List, [], ◌∷◌, map, filter, slice_index_or, All, Option, Some, None, IsSome, option_map, sum_by}
use Rattle.std.specs.List.{list_any, filter_map, IsDistinct}
use Rattle.std.specs.Arc.{arc_value}
use Rattle.sol_base.specs.Accounts.{empty_account}
use Rattle.sol_base.specs.declared.key.Key.{Key}
use Rattle.sol_base.specs.declared.account.Account.{Account}
pub use Rattle.account_store.specs.Shared.{Shared}
use Rattle.lock_table.specs.declared.locks.NumberedLock.{NumberedLock}

-- the account behind a share
abbrev pub value_of : Shared → Account
value_of share = arc_value share

-- the account in the slot of a number, if it is not away
abbrev pub account_at : List (Option Shared) → ℕ → Option Account
account_at slots n = option_map value_of (slice_index_or slots n None)

-- the number stands in the list
abbrev pub has : ℕ → List ℕ → Bool
has n ns = list_any (λ x. n == x) ns

-- the account that stands beside a number
abbrev pub beside_number : ℕ → List ℕ → List Account → Account
beside_number n [] vs = empty_account
beside_number n (x ∷ xs) [] = empty_account
beside_number n (x ∷ xs) (v ∷ vs) = if n == x then v else beside_number n xs vs

-- accounts are put into the slots of these numbers, each the one that stands beside it
abbrev pub put_at : List ℕ → List Account → (ℕ → Option Account) → ℕ → Option Account
put_at ns vs slots n = if has n ns then Some (beside_number n ns vs) else slots n

-- the numbers of locks, and those of the write locks
abbrev pub numbers : List NumberedLock → List ℕ
numbers locks = map (λ lock. lock.number) locks

abbrev pub write_numbers : List NumberedLock → List ℕ
write_numbers locks = numbers (filter (λ lock. lock.write) locks)

-- no two locks have one number
abbrev pub AreDistinct : List NumberedLock → Type 0
AreDistinct locks = IsDistinct (λ a b. a == b) (numbers locks)

-- a lock reads
abbrev pub ReadsAny : List NumberedLock → Type 0
ReadsAny locks = list_any (λ lock. not lock.write) locks ≡ true

-- what these numbers have leaves the slots
abbrev pub taken_at : List ℕ → (ℕ → Option Account) → ℕ → Option Account
taken_at ns slots n = if has n ns then None else slots n

-- the values lent for writing go back, one value beside each lock
abbrev pub put_back_at : List NumberedLock → List Account → (ℕ → Option Account) → ℕ
    → Option Account
put_back_at [] vs slots n = slots n
put_back_at (lock ∷ locks) [] slots n = slots n
put_back_at (lock ∷ locks) (v ∷ vs) slots n =
    if lock.write && (n == lock.number) then Some v else put_back_at locks vs slots n

-- each lock's account is there
abbrev pub AllThere : List NumberedLock → (ℕ → Option Account) → Type 0
AllThere locks slots = All (λ lock. IsSome (slots lock.number)) locks

-- the account of a slot
abbrev pub in_slot : Option Account → Account
in_slot (Some v) = v
in_slot None = empty_account

-- the values that locks find
abbrev pub found : List NumberedLock → (ℕ → Option Account) → List Account
found locks slots = map (λ lock. in_slot (slots lock.number)) locks

-- the lamports of the accounts in slots
abbrev pub slot_lamports : List (Option Shared) → ℕ
slot_lamports slots = sum_by (λ slot. (in_slot (option_map value_of slot)).lamports) slots

-- the account of a slot beside its key, where it has lamports
abbrev pub held_entry : Key × Option Shared → Option (Key × Shared)
held_entry (key, None) = None
held_entry (key, Some share) =
    if (value_of share).lamports == 0 then None else Some (key, share)

-- the accounts that have lamports
abbrev pub held_in : List (Key × Option Shared) → List (Key × Shared)
held_in slots = filter_map held_entry slots
