-- A state with one more entry, whose key is above all that are there.
use Rattle.std.proofs.Common.{◌≡◌, ℕ, ◌+◌, ◌-◌, ◌^◌, ◌≤◌, List, [], ◌∷◌, ◌++◌, length, Option, Some, None, refl, sym, ap, subst, ◌∙◌, Bor}
use Rattle.std.specs.Prelude.{option_map, option_copied, slice_get}
use Rattle.std.specs.Arc.{arc_value}
use Rattle.std.specs.Map.{keys_of}
use Rattle.std.specs.FinMap as map
use Rattle.std.specs.BTreeMap.{insert_entry}
use Rattle.std.specs.List.{AllByRecursion}
use Rattle.std.specs.List.Sorted.{IsStrictlySortedBy}
use Rattle.std.specs.declared.cmp.Ordering.TheVariants.{Less}
use Rattle.std.proofs.lemmas.Option.{slice_get-map}
use Rattle.std.proofs.lemmas.List.Sums.{sum_by_push}
use Rattle.sol_base.specs.declared.key.Key.{Key}
use Rattle.sol_base.specs.declared.account.Account.{Account}
use Rattle.sol_base.specs.Keys.{key_cmp}
use Rattle.sol_base.specs.Accounts.{IsShort}
use Rattle.sol_base.proofs.KeyLaws.{key_cmp_total}
use Rattle.account_store.specs.declared.sorted.KeyedAccount.{KeyedAccount}
use Rattle.account_store.specs.State.{State, entries, lamports_of, sum, IsState}
use Rattle.account_store.specs.Shared.{Shared, seen, state_seen, IsKept}
use Rattle.account_store.specs.Sorted.{entry_of, last_key, entry_fault}
use Rattle.account_store.proofs.EntryLists.{sorted-entries, entries-insert_entry}
use Rattle.account_store.proofs.StateLaws.{IsState-insert}
use Rattle.account_store.proofs.SharedLaws.{state_seen-insert_entry, entries-state_seen, keys-seen, length-seen}
use Rattle.account_store.proofs.SortedLaws.{Entry, IsFine-from_none, below_last, Ascend-push, insert_entry-last}

-- what the last entry of a list shows
last-shown : (r : Option (Bor (Key × Shared))) (es : List (Key × Shared)) → option_copied r ≡ slice_get es (length es - 1) → option_map (λ (e : Bor (Key × Shared)). e.now.0) r ≡ last_key (seen es)
last-shown r es last =
    fused r ∙ ap (λ (o : Option (Key × Shared)). option_map (λ (d : Entry). d.0) (option_map see o)) last
    ∙ ap (option_map (λ (d : Entry). d.0)) (sym (slice_get-map see es (length es - 1)))
    ∙ sym (ap (λ n. option_map (λ (d : Entry). d.0) (slice_get (seen es) (n - 1))) (length-seen es))
  where
    see : Key × Shared → Entry
    see d = (d.0, arc_value d.1)

    fused : (o : Option (Bor (Key × Shared))) → option_map (λ (e : Bor (Key × Shared)). e.now.0) o ≡ option_map (λ (d : Entry). d.0) (option_map see (option_copied o))
    fused None = refl
    fused (Some e) = refl

-- the entries of the state are those of the list
entries-of : (es : List (Key × Shared)) (s : State) → IsStrictlySortedBy key_cmp (keys_of es) → state_seen es ≡ s → seen es ≡ entries s
entries-of es s ascends is = sym (entries-state_seen es ascends) ∙ ap entries is

-- the last key of the state
pub last-of : (r : Option (Bor (Key × Shared))) (es : List (Key × Shared)) (s : State) → IsStrictlySortedBy key_cmp (keys_of es) → state_seen es ≡ s
    → option_copied r ≡ slice_get es (length es - 1) → option_map (λ (e : Bor (Key × Shared)). e.now.0) r ≡ last_key (entries s)
last-of r es s ascends is last = last-shown r es last ∙ ap last_key (entries-of es s ascends is)

-- and how many they are
pub length-of : (es : List (Key × Shared)) (s : State) → IsStrictlySortedBy key_cmp (keys_of es) → state_seen es ≡ s → length es ≡ length (entries s)
length-of es s ascends is = sym (length-seen es) ∙ ap length (entries-of es s ascends is)

-- the keys before are below that of an entry with which nothing is wrong
below-next : (es : List (Key × Shared)) (s : State) (e : Entry) → IsStrictlySortedBy key_cmp (keys_of es)
    → state_seen es ≡ s → entry_fault (entries s) e ≡ None
    → AllByRecursion (λ (q : Key). key_cmp q e.0 ≡ Less) (keys_of es)
below-next es s e ascends is none =
    subst (AllByRecursion (λ (q : Key). key_cmp q e.0 ≡ Less)) (ap keys_of (sym (entries-of es s ascends is)) ∙ keys-seen es)
    (below_last (entries s) e.0 (sorted-entries key_cmp s) (IsFine-from_none (entries s) e none).above)

-- an entry at the end of the list is one that is put into the map
pub put-last : (es new : List (Key × Shared)) (s : State) (e : KeyedAccount) (v : Shared)
    → IsStrictlySortedBy key_cmp (keys_of es) → state_seen es ≡ s → new ≡ es ++ (e.key, v) ∷ []
    → entry_fault (entries s) (entry_of e) ≡ None → new ≡ insert_entry key_cmp es e.key v
put-last es new s e v ascends is pushed none = pushed ∙ sym (insert_entry-last es e.key v (below-next es s (entry_of e) ascends is none))

pub ascends-last : (es new : List (Key × Shared)) (s : State) (e : KeyedAccount) (v : Shared)
    → IsStrictlySortedBy key_cmp (keys_of es) → state_seen es ≡ s → new ≡ es ++ (e.key, v) ∷ []
    → entry_fault (entries s) (entry_of e) ≡ None → IsStrictlySortedBy key_cmp (keys_of new)
ascends-last es new s e v ascends is pushed none =
    subst (λ (l : List (Key × Shared)). IsStrictlySortedBy key_cmp (keys_of l)) (sym pushed) (Ascend-push es (e.key, v) ascends (below-next es s (entry_of e) ascends is none))

entries-insert : (s : State) (e : Entry) → entry_fault (entries s) e ≡ None → entries (map.insert s e.0 e.1) ≡ entries s ++ e ∷ []
entries-insert s e none = entries-insert_entry key_cmp_total s e.0 e.1
    ∙ insert_entry-last (entries s) e.0 e.1
    (below_last (entries s) e.0 (sorted-entries key_cmp s) (IsFine-from_none (entries s) e none).above)

state-pushed : (es new : List (Key × Shared)) (s : State) (e : KeyedAccount) (v : Shared) → state_seen es ≡ s
    → arc_value v ≡ e.account → new ≡ insert_entry key_cmp es e.key v
    → state_seen new ≡ map.insert s e.key e.account
state-pushed es new s e v is same put = ap state_seen put ∙ state_seen-insert_entry es e.key v
    ∙ ap (λ (t : State). map.insert t e.key (arc_value v)) is ∙ ap (λ (a : Account). map.insert s e.key a) same

-- the entries of the map with one more
pub entries-pushed : (es new : List (Key × Shared)) (s : State) (e : KeyedAccount) (v : Shared)
    → state_seen es ≡ s → arc_value v ≡ e.account → new ≡ insert_entry key_cmp es e.key v
    → entry_fault (entries s) (entry_of e) ≡ None
    → entries (state_seen new) ≡ entries s ++ entry_of e ∷ []
entries-pushed es new s e v is same put none = ap entries (state-pushed es new s e v is same put) ∙ entries-insert s (entry_of e) none

-- and what a store keeps of it
pub IsKept-pushed : (es new : List (Key × Shared)) (total n : ℕ) (s : State) (e : KeyedAccount) (v : Shared)
    → IsKept es total → state_seen es ≡ s → arc_value v ≡ e.account → new ≡ insert_entry key_cmp es e.key v
    → IsStrictlySortedBy key_cmp (keys_of new) → entry_fault (entries s) (entry_of e) ≡ None → IsShort e.account → n ≡ sum s + e.account.lamports → IsKept new n
IsKept-pushed es new total n s e v is shown same put ascends none short counted =
    let fine = IsFine-from_none (entries s) (entry_of e) none in
    let after : state_seen new ≡ map.insert s e.key e.account = state-pushed es new s e v shown same put in
    let all : sum (map.insert s e.key e.account)
    ≡ sum s + e.account.lamports = ap lamports_of (entries-insert s (entry_of e) none)
    ∙ sum_by_push (λ (d : Entry). d.1.lamports) (entries s) (entry_of e) in
    let state : IsState s = subst IsState shown is.is_state in
    record {
      ascends = ascends;
      counted = counted ∙ sym all ∙ ap sum (sym after);
      is_state = subst IsState (sym after) (IsState-insert s e.key e.account state (fine.some, short) (subst (λ m. m ≤ 2 ^ 64 - 1) (sym all) fine.fits));
    }
