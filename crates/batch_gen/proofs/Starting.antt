-- The accounts of a chain at its start.
use Rattle.std.proofs.Common.{◌≡◌, ◌+◌, ◌≤◌, ℕ, List, [], ◌∷◌, ◌++◌, length, All, Result, Ok, Err, refl, sym, ap, ◌∙◌, arith, rules}
use Rattle.std.specs.Prelude.{map, MatchBool}
use Rattle.std.specs.List.{range_with_len}
use Rattle.std.specs.FinMap.{from_entries, len-entries}
use Rattle.std.proofs.lemmas.List.{length-map}
use Rattle.std.proofs.lemmas.List.Elements.{All-map, All-append, All-from_recursion}
use Rattle.std.proofs.lemmas.List.FromFn.{map-range_with_len_more}
use Rattle.sol_base.specs.declared.key.Key.{Key}
use Rattle.sol_base.specs.declared.account.Account.{Account}
use Rattle.sol_base.specs.Accounts.{IsShort}
use Rattle.sol_base.specs.Keys.{key_cmp}
use Rattle.sol_base.proofs.KeyLaws.{key_cmp_exact, key_cmp_total}
use Rattle.account_store.specs.declared.sorted.KeyedAccount.{KeyedAccount}
use Rattle.status_cache.specs.declared.recent.Mark.{Mark}
use Rattle.status_cache.specs.Recent.{Ascends}
use Rattle.snapshot_codec.specs.Snapshot.{IsReadable}
use Rattle.sol_base.specs.Limits.{first_limits, max_transactions}
use Rattle.account_store.specs.State.{State, len, IsState}
use Rattle.account_store.specs.declared.sorted.StoreFault.{StoreFault}
use Rattle.account_store.specs.declared.sorted.StoreFault.TheVariants.{OutOfOrder, Empty, SupplyTooLarge, OutOfMemory as no_memory}
use Rattle.account_store.specs.Sorted.{entry_of, entries_of, entry_faults, is_store_memory, state_of}
use Rattle.spec_base.specs.Reading.{first_or}
use Rattle.account_store.proofs.EntryLists.{from_entries-entries}
use Rattle.account_store.proofs.SortedLaws.{state_of-ok}
use Rattle.batch_gen.specs.declared.start.TheConstants.{USER_LAMPORTS, USERS}
use Rattle.batch_gen.specs.Generator.{user, wallet, user_account, collector_account, start_hash, start_accounts, start_state}

-- one user more
pub one_more_user : (i : ℕ) (before after : List KeyedAccount) (key : Key) (account : Account) → key ≡ user i
    → account ≡ wallet USER_LAMPORTS → before ≡ map user_account (range_with_len 0 i)
    → after ≡ before ++ record { key = key; account = account } ∷ []
    → after ≡ map user_account (range_with_len 0 (i + 1))
one_more_user i before after key account is_user is_wallet so_far pushed =
    rw (pushed, so_far, is_user, is_wallet) (sym (map-range_with_len_more user_account 0 i i (omega arith)))

pub starts_few : length start_accounts ≡ 65
unfolding start_accounts
starts_few = refl

pub starts_short : All (λ (e : KeyedAccount). IsShort e.account) start_accounts
unfolding start_accounts
starts_short =
    let Short = λ (e : KeyedAccount). IsShort e.account in
    let users : All Short (map user_account (range_with_len 0 USERS)) = All-map Short user_account (range_with_len 0 USERS) (λ _ _ _. omega arith) in
    let last : All Short (collector_account ∷ []) = All-from_recursion Short (collector_account ∷ []) (omega arith, tt) in
    All-append Short (map user_account (range_with_len 0 USERS)) (collector_account ∷ []) users last

ok_is_no_fault : (s : State) (fault : StoreFault) → (let o : Result State StoreFault = Ok s in o) ≡ Err fault → ⊥
ok_is_no_fault s fault e = absurd (cc)

-- nothing is wrong with them
starts_well : entry_faults (entries_of start_accounts) ≡ []
unfolding start_accounts
starts_well = refl

no_fault : (fault : StoreFault) → state_of start_accounts ≡ Err fault → ⊥
no_fault fault h =
    let e : first_or (entry_faults (entries_of start_accounts)) (Ok (from_entries (entries_of start_accounts))) ≡ Err fault = h in
    ok_is_no_fault (from_entries (entries_of start_accounts)) fault (rw starts_well at e)

-- so only a lack of memory keeps them from being a state
pub only_memory : (fault : StoreFault) → MatchBool (is_store_memory fault) (Unit {0}) (state_of start_accounts ≡ Err fault) → fault ≡ no_memory
only_memory no_memory h = refl
only_memory (OutOfOrder at) h = absurd (no_fault (OutOfOrder at) h)
only_memory (Empty at) h = absurd (no_fault (Empty at) h)
only_memory SupplyTooLarge h = absurd (no_fault SupplyTooLarge h)

-- what they are as a state
pub is_start : (s : State) → state_of start_accounts ≡ Ok s → s ≡ start_state
unfolding start_state
is_start s h =
    let has = state_of-ok start_accounts s h in
    sym (from_entries-entries key_cmp_total key_cmp_exact s) ∙ ap (from_entries {R = key_cmp}) has.1

pub start_len : (s : State) → state_of start_accounts ≡ Ok s → len s ≡ 65
start_len s h =
    let has = state_of-ok start_accounts s h in
    let a = len-entries s in
    let b = ap length has.1 in
    let c = length-map start_accounts entry_of in
    omega (arith, a, b, c, starts_few)

pub starts_readable : (s : State) → IsState s → len s ≡ 65
    → IsReadable (record { slot = 0; limits = first_limits; recent = record { hash = start_hash; messages = [] } ∷ []; accounts = s })
starts_readable s is_state few =
    let mark : Mark = record { hash = start_hash; messages = [] } in
    let none : Ascends [] = search rules in
    let marks : List Mark = mark ∷ [] in
    record {
      limits = record { keys = (omega arith, omega arith); height = (omega arith, omega arith); key_units = (omega arith, omega arith); block_units = (omega arith, omega arith) };
      recent = record { few = omega arith; ascending = All-from_recursion (λ (m : Mark). Ascends m.messages) marks (none, tt) };
      messages = All-from_recursion (λ (mark : Mark). length mark.messages ≤ max_transactions) marks (omega arith, tt);
      state = is_state;
      accounts = omega (arith, few);
    }
