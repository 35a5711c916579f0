-- Snapshots whose parts have the widths of their types, through what blocks changed.
use Rattle.std.proofs.Common.{◌≡◌, ◌+◌, ◌-◌, ◌≤◌, ◌^◌, Bool, true, false, cond, List, [], ◌∷◌, All, inl, inr, Some, None, map, sym, subst, arith}
use Rattle.std.specs.Prelude.{nat_le, if◌then◌else◌}
use Rattle.std.specs.List.{AllByRecursion}
use Rattle.std.specs.BTreeMap.{insert_entry, is_at}
use Rattle.std.specs.Map.{remove_entry}
use Rattle.std.specs.Ordering.{match_ordering}
use Rattle.std.specs.declared.cmp.Ordering.{Ordering}
use Rattle.std.specs.declared.cmp.Ordering.TheVariants.{Equal, Greater, Less}
use Rattle.std.proofs.lemmas.Bool.{cases_eq}
use Rattle.std.proofs.lemmas.List.Elements.{All-cons, All-from_recursion, All-head, All-take, recursion_from_All}
use Rattle.std.proofs.lemmas.Option.{same_Some}
use Rattle.sol_base.specs.declared.account.Account.{Account}
use Rattle.sol_base.specs.declared.key.Key.{Key}
use Rattle.sol_base.specs.Keys.{IsHash, IsKey, key_cmp}
use Rattle.sol_base.proofs.KeyLaws.{key_cmp_exact, key_cmp_total}
use Rattle.status_cache.specs.declared.recent.Mark.{Mark}
use Rattle.status_cache.specs.Recent.{max_marks}
use Rattle.account_store.specs.State.{State, entries, put, remove, sum}
use Rattle.account_store.proofs.EntryLists.{entries-insert_entry, entries-remove_entry}
use Rattle.account_store.proofs.StateLaws.{put-more, put-zero}
use Rattle.snapshot_codec.specs.declared.snapshot.Snapshot.{Snapshot}
use Rattle.snapshot_codec.specs.Snapshot.{HasWidths}
use Rattle.ledger_store.specs.declared.changes.Changes.{Changes}
use Rattle.ledger_store.specs.Changes.{next_accounts, next_recent, next_snapshot, with_accounts, without}
use Rattle.ledger_store.proofs.Differences.{Entry}

-- its key and its owner have 32 bytes each
abbrev IsSized : Entry → Type 0
IsSized e = IsKey e.0 × IsKey e.1.owner

abbrev AreSized : State → Type 0
AreSized s = AllByRecursion IsSized (entries s)

-- ---- one account
inserted_sized : (es : List Entry) (key : Key) (account : Account) → AllByRecursion IsSized es → IsKey key → IsKey account.owner
    → AllByRecursion IsSized (insert_entry key_cmp es key account)
inserted_sized [] key account all is owned = ((is, owned), tt)
inserted_sized (e ∷ es) key account all is owned = by_order (key_cmp key e.0) (inserted_sized es key account all.1 is owned)
  where
    by_order : (o : Ordering) → AllByRecursion IsSized (insert_entry key_cmp es key account)
        → AllByRecursion IsSized (match_ordering o ((key, account) ∷ e ∷ es) ((e.0, account) ∷ es) (e ∷ insert_entry key_cmp es key account))
    by_order Less rest = ((is, owned), all)
    by_order Equal rest = ((all.0.0, owned), all.1)
    by_order Greater rest = (all.0, rest)

removed_entry_sized : (test : Key → Bool) (es : List Entry) → AllByRecursion IsSized es → AllByRecursion IsSized (remove_entry test es)
removed_entry_sized test [] all = tt
removed_entry_sized test (e ∷ es) all = by_test (test e.0) (removed_entry_sized test es all.1)
  where
    by_test : (b : Bool) → AllByRecursion IsSized (remove_entry test es) → AllByRecursion IsSized (cond b es (e ∷ remove_entry test es))
    by_test true rest = all.1
    by_test false rest = (all.0, rest)

removed_sized : (s : State) (key : Key) → AreSized s → AreSized (remove s key)
removed_sized s key all =
    subst (AllByRecursion IsSized) (sym (entries-remove_entry key_cmp_total key_cmp_exact s key)) (removed_entry_sized (is_at (key_cmp key)) (entries s) all)

put_sized : (s : State) (key : Key) (account : Account) → AreSized s → IsKey key → IsKey account.owner → AreSized (put s key account)
put_sized s key account all is owned =
    elim (cases_eq account.lamports 0) [
      | inl none ↦ subst AreSized (sym (put-zero s key account none)) (removed_sized s key all)
      | inr some ↦ let more : 1 ≤ account.lamports = omega (arith, some) in
          subst AreSized (sym (put-more s key account more))
          (subst (AllByRecursion IsSized) (sym (entries-insert_entry key_cmp_total s key account)) (inserted_sized (entries s) key account all is owned))
    ]

-- ---- what a block changed
without_sized : (keys : List Key) (s : State) → AreSized s → AreSized (without keys s)
without_sized [] s all = all
without_sized (key ∷ keys) s all = without_sized keys (remove s key) (removed_sized s key all)

with_sized : (es : List Entry) (s after : State) → AllByRecursion IsSized es → AreSized s → with_accounts es s ≡ Some after → AreSized after
with_sized [] s after given all is = subst AreSized (same_Some s after is) all
with_sized (e ∷ es) s after given all is =
    by_test (nat_le (sum s + e.1.lamports) (2 ^ 64 - 1)) (with_sized es (put s e.0 e.1) after given.1 (put_sized s e.0 e.1 all given.0.0 given.0.1)) is
  where
    by_test : (b : Bool) → (with_accounts es (put s e.0 e.1) ≡ Some after → AreSized after)
        → (if b then with_accounts es (put s e.0 e.1) else None) ≡ Some after → AreSized after
    by_test true rest h = rest h
    by_test false rest h = absurd (cc)

-- ---- a snapshot
sized_entries : (s : Snapshot) → HasWidths s → AreSized s.accounts
sized_entries s has = recursion_from_All IsSized (entries s.accounts) (λ k d l. (has.keys k d l, has.owners k d l))

next_sized : (changes : Changes) (before : Snapshot) (after : State) → HasWidths changes.left → HasWidths before
    → next_accounts changes before.accounts ≡ Some after → AreSized after
next_sized changes before after left was is =
    with_sized (entries changes.left.accounts) (without (map (λ (e : Entry). e.0) (entries changes.left.accounts)) (without changes.gone before.accounts)) after
    (sized_entries changes.left left)
    (without_sized (map (λ (e : Entry). e.0) (entries changes.left.accounts)) (without changes.gone before.accounts) (without_sized changes.gone before.accounts (sized_entries before was)))
    is

-- what holds of the marks of both holds of the next ones
pub all_next : (P : Mark → Type 0) (new before : List Mark) → All P new → All P before → All P (next_recent new before)
all_next P [] before a b = b
all_next P (mark ∷ marks) before a b = All-take P max_marks (mark ∷ before) (All-cons P mark before (All-head P mark marks a) b)

-- the snapshot after a block has the widths that what it changed and the one before it have
pub next_widths : (changes : Changes) (before : Snapshot) (after : State) → HasWidths changes.left → HasWidths before
    → next_accounts changes before.accounts ≡ Some after → HasWidths (next_snapshot changes before after)
next_widths changes before after left was is =
    let all = next_sized changes before after left was is in
    let each = All-from_recursion IsSized (entries after) all in
    record {
      slot = left.slot;
      hashes = all_next (λ (mark : Mark). IsHash mark.hash) changes.left.recent before.recent left.hashes was.hashes;
      names = all_next (λ (mark : Mark). All IsHash mark.messages) changes.left.recent before.recent left.names was.names;
      keys = λ k d l. (each k d l).0;
      owners = λ k d l. (each k d l).1;
    }
