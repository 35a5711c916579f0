-- Names of files, and the slots that a listing tells.
use Rattle.std.specs.Prelude.{ℕ, ◌<◌, ◌==◌, ◌||◌, Bool, true, false, List, [], ◌∷◌}
use Rattle.std.specs.List.{AllByRecursion, list_any}
use Rattle.ledger_folder.specs.declared.name.Name.{Name}
use Rattle.ledger_folder.specs.declared.name.Name.TheVariants.{Chain, State, Changes, Block}

abbrev pub same_name : Name → Name → Bool
same_name Chain Chain = true
same_name (State a) (State b) = a == b
same_name (Changes a) (Changes b) = a == b
same_name (Block a) (Block b) = a == b
same_name _ _ = false

-- the file is one of the slot
abbrev pub is_of_slot : ℕ → Name → Bool
is_of_slot slot name =
    same_name (State slot) name || same_name (Changes slot) name || same_name (Block slot) name

-- each slot is below those after it
abbrev pub Ascends : List ℕ → Type 0
Ascends [] = Unit {0}
Ascends (slot ∷ slots) = AllByRecursion (λ later. slot < later) slots × Ascends slots

-- the slot is one of them
abbrev pub has_slot : List ℕ → ℕ → Bool
has_slot slots slot = list_any (λ one. one == slot) slots
