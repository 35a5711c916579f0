-- Lists of accounts as states.
use Rattle.std.proofs.Common.{◌≡◌, List, [], ◌∷◌, length, Result, Ok, All, sym, subst}
use Rattle.std.specs.List.{AllByRecursion}
use Rattle.std.specs.FinMap.{from_entries}
use Rattle.std.proofs.lemmas.List.{length-map}
use Rattle.std.proofs.lemmas.List.Elements.{All-from_recursion}
use Rattle.spec_base.specs.Reading.{first_or}
use Rattle.sol_base.specs.Accounts.{IsShort}
use Rattle.account_store.specs.declared.sorted.KeyedAccount.{KeyedAccount}
use Rattle.account_store.specs.State.{State, IsHeld}
use Rattle.account_store.specs.Sorted.{entry_of, entries_of, entry_faults, state_of}
use Rattle.ledger_store.proofs.Differences.{Entry}

ok_first : {X E : Type 0} (faults : List E) (x y : X) → first_or faults (let r : Result X E = Ok x in r) ≡ Ok y → y ≡ x
ok_first [] x y h = cc
ok_first (fault ∷ faults) x y h = absurd (cc)

-- the state that a list gives is that of its entries
pub given : (list : List KeyedAccount) (s : State) → state_of list ≡ Ok s → s ≡ from_entries (entries_of list)
given list s h = ok_first (entry_faults (entries_of list)) (from_entries (entries_of list)) s h

pub length_of : (list : List KeyedAccount) → length (entries_of list) ≡ length list
length_of list = length-map list entry_of

short_each : (list : List KeyedAccount) → AllByRecursion (λ (e : Entry). IsHeld e.1) (entries_of list) → AllByRecursion (λ (e : KeyedAccount). IsShort e.account) list
short_each [] h = tt
short_each (e ∷ list) h = (h.0.1, short_each list h.1)

-- the data of its accounts have lengths that are allowed
pub short : (list : List KeyedAccount) (es : List Entry) → entries_of list ≡ es → AllByRecursion (λ (e : Entry). IsHeld e.1) es → All (λ (e : KeyedAccount). IsShort e.account) list
short list es same held = All-from_recursion (λ (e : KeyedAccount). IsShort e.account) list (short_each list (subst (AllByRecursion (λ (e : Entry). IsHeld e.1)) (sym same) held))
