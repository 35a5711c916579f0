-- A state from a list of entries, whose keys ascend.
use Rattle.std.specs.Prelude.{◌≡◌, ◌+◌, ◌-◌, ◌^◌, ◌≤◌, ◌==◌, List, [], ◌∷◌, ◌++◌, length, take, map, slice_get, nat_lt, not, if◌then◌else◌, Bool, true, false, Option, Some, None, Result, Ok, option_map, All, MatchBool}
use Rattle.std.specs.List.{enumerate_from, filter_map}
use Rattle.std.specs.List.Sorted.{IsStrictlySortedBy}
use Rattle.std.specs.Map.{keys_of}
use Rattle.std.specs.FinMap.{from_entries}
use Rattle.spec_base.specs.Reading.{first_or}
use Rattle.sol_base.specs.declared.key.Key.{Key}
use Rattle.sol_base.specs.declared.account.Account.{Account}
use Rattle.sol_base.specs.Keys.{key_cmp}
use Rattle.account_store.specs.declared.sorted.KeyedAccount.{KeyedAccount}
use Rattle.account_store.specs.declared.sorted.StoreFault.{StoreFault}
use Rattle.account_store.specs.declared.sorted.StoreFault.TheVariants.{OutOfOrder, Empty, SupplyTooLarge, OutOfMemory}
use Rattle.account_store.specs.State.{State, is_above, lamports_of}

-- keyed accounts as the entries of a state, and back
abbrev pub entry_of : KeyedAccount → Key × Account
entry_of e = (e.key, e.account)

abbrev pub entries_of : List KeyedAccount → List (Key × Account)
entries_of list = map entry_of list

abbrev pub keyed : Key × Account → KeyedAccount
keyed e = record { key = e.0; account = e.1 }

-- the keys ascend
abbrev pub Ascend : List (Key × Account) → Type 0
Ascend es = IsStrictlySortedBy key_cmp (keys_of es)

-- the entries are those of a state
pub record AreOfState (es : List (Key × Account)) : Type 0 where
  pub ascend : Ascend es
  pub some : All (λ e. 1 ≤ e.1.lamports) es
  pub fits : lamports_of es ≤ 2 ^ 64 - 1

-- what is wrong with the entry that follows the entries of a state
abbrev pub IsWrongAfter : List (Key × Account) → Key × Account → StoreFault → Type 0
IsWrongAfter before e (OutOfOrder at) = (at ≡ length before) × (¬ Ascend (before ++ e ∷ []))
IsWrongAfter before e (Empty at) =
    (at ≡ length before) × Ascend (before ++ e ∷ []) × (e.1.lamports ≡ 0)
IsWrongAfter before e SupplyTooLarge =
    Ascend (before ++ e ∷ []) × (1 ≤ e.1.lamports) × (2 ^ 64 ≤ lamports_of (before ++ e ∷ []))
IsWrongAfter before e OutOfMemory = ⊥

-- the entries up to some place are those of a state, and the fault is that of the entry there
pub record IsRefused (es : List (Key × Account)) (fault : StoreFault) : Type 0 where
  pub before : List (Key × Account)
  pub entry : Key × Account
  pub after : List (Key × Account)
  pub split : es ≡ before ++ entry ∷ after
  pub fine : AreOfState before
  pub wrong : IsWrongAfter before entry fault

-- the key of the last entry, if there is one
abbrev pub last_key : List (Key × Account) → Option Key
last_key es = option_map (λ e. e.0) (slice_get es (length es - 1))

-- what is wrong with an entry, told the entries before it
abbrev pub entry_fault : List (Key × Account) → Key × Account → Option StoreFault
entry_fault before e =
    if not (is_above (last_key before) e.0) then Some (OutOfOrder (length before)) else
    if e.1.lamports == 0 then Some (Empty (length before)) else
    if nat_lt (2 ^ 64 - 1) (lamports_of before + e.1.lamports) then Some SupplyTooLarge else
    None

-- the faults of all entries, in their order
abbrev pub entry_faults : List (Key × Account) → List StoreFault
entry_faults es = filter_map (λ (at, e). entry_fault (take at es) e) (enumerate_from 0 es)

-- the state of the entries, or what is wrong first
abbrev pub state_of : List KeyedAccount → Result State StoreFault
state_of list =
    first_or (entry_faults (entries_of list)) (Ok (from_entries (entries_of list)))

-- out of memory, which no input shows
abbrev pub is_store_memory : StoreFault → Bool
is_store_memory OutOfMemory = true
is_store_memory _ = false

-- it is the fault that was found, or out of memory
abbrev pub IsFaultOr : Option StoreFault → StoreFault → Type 0
IsFaultOr found fault = MatchBool (is_store_memory fault) (Unit {0}) (found ≡ Some fault)
