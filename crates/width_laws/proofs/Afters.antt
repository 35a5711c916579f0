-- The snapshot after a block has its widths.
use Rattle.std.proofs.Common.{◌≡◌, ◌==◌, ◌+◌, ◌&&◌, Bool, true, false, not, cond, List, [], ◌∷◌, length, map, Option, Some, None, All, refl, sym, ap, subst, arith}
use Rattle.std.specs.Prelude.{unwrap_or}
use Rattle.std.specs.List.{AllByRecursion, cons_option}
use Rattle.std.specs.List.Sorted.{IsStrictlySortedBy}
use Rattle.std.specs.BTreeSet.{insert_key}
use Rattle.std.specs.Map.{keys_of}
use Rattle.std.specs.Ordering.{match_ordering}
use Rattle.std.specs.declared.cmp.Ordering.{Ordering}
use Rattle.std.specs.declared.cmp.Ordering.TheVariants.{Equal, Greater, Less}
use Rattle.std.proofs.lemmas.List.Elements.{All-cons, All-from_recursion, All-take, recursion_from_All}
use Rattle.sha2.proofs.Facts256.{length-sha256}
use Rattle.sol_base.specs.declared.account.Account.{Account}
use Rattle.sol_base.specs.declared.key.Hash32.{Hash32}
use Rattle.sol_base.specs.declared.key.Key.{Key}
use Rattle.sol_base.specs.Keys.{IsHash, IsKey, hash_cmp, key_cmp}
use Rattle.sol_base.proofs.KeyLaws.{key_cmp_exact, key_cmp_total}
use Rattle.message_codec.specs.Wire.{message_bytes}
use Rattle.fee_rules.specs.declared.split.FeeSplit.{FeeSplit}
use Rattle.fee_rules.specs.Fees.{split_of}
use Rattle.status_cache.specs.declared.recent.Mark.{Mark}
use Rattle.status_cache.specs.Recent.{max_marks}
use Rattle.tx_report.specs.declared.outcome.Outcome.{Outcome}
use Rattle.tx_report.specs.declared.status.Status.{Status}
use Rattle.tx_report.specs.declared.status.Status.TheVariants.{Dropped, Failed, Good}
use Rattle.account_store.specs.State.{State, at, entries, put}
use Rattle.account_store.proofs.EntryLists.{entries-from_entries, sorted-entries}
use Rattle.snapshot_codec.specs.declared.batch.Batch.{Batch}
use Rattle.snapshot_codec.specs.declared.snapshot.Snapshot.{Snapshot}
use Rattle.snapshot_codec.specs.Snapshot.{HasWidths}
use Rattle.snapshot_codec.proofs.SnapshotLaws.{round_trips}
use Rattle.loader_prog.specs.Loader.{activated, active}
use Rattle.loader_prog.specs.Laws.{IsActivated}
use Rattle.loader_prog.proofs.Activating.{activated-is}
use Rattle.admission.specs.declared.chosen.Chosen.{Chosen}
use Rattle.admission.specs.Chosen.{IsChosen}
use Rattle.block_end.specs.BlockEnd.{Shares, activate_all, base_fees, may_collect, more, priority_fees, share, share_fees}
use Rattle.block_end.specs.Blocks.{ascending, mark_of, processed_by, processed_in}
use Rattle.block_end.specs.Ending.{Ran}
use Rattle.block_run.specs.SerialRun.{serial_run, told_in}
use Rattle.block_run.specs.Blocks.{block_result, closed, head_of, start_in}
use Rattle.block_laws.specs.Keeping.{order_of}
use Rattle.block_laws.proofs.Keeps.{admitted_fit}
use Rattle.block_laws.proofs.Nexts.{next_blocks}
use Rattle.width_laws.specs.Widths.{AreWide, SnapshotsAfterBlocksAreRead, SnapshotsAfterBlocksHaveWidths}
use Rattle.width_laws.proofs.Keyed.{IsKeyed, admitted_keyed}
use Rattle.width_laws.proofs.States.{AreSized, IsSized, owner_at, put_sized, states_sized}

-- ---- the accounts
shared_sized : (s : State) (collector : Key) (split : FeeSplit) → AreSized s → IsKey collector → AreSized (share s collector split).accounts
shared_sized s collector split all is = by_test (not (split.rest == 0) && may_collect collector paid)
  where
    paid : Account
    paid = more (at s collector) split.rest

    by_test : (b : Bool) → AreSized (cond b (let r : Shares = record { accounts = put s collector paid; burned = split.burned; collected = split.rest } in r)
        (record { accounts = s; burned = split.burned + split.rest; collected = 0 })).accounts
    by_test true = put_sized s collector paid all is (owner_at s collector all)
    by_test false = all

shared_fees_sized : (s : State) (collector : Key) (outcomes : List Outcome) → AreSized s → IsKey collector → AreSized (share_fees s collector outcomes).accounts
unfolding share_fees
shared_fees_sized s collector outcomes all is = shared_sized s collector (split_of (base_fees outcomes) (priority_fees outcomes)) all is

active_owner : (account : Account) → (active account).owner ≡ account.owner
active_owner account = by_answer (activated account) (activated-is account)
  where
    by_answer : (answer : Option Account) → ((after : Account) → answer ≡ Some after → IsActivated account after) → (unwrap_or answer account).owner ≡ account.owner
    by_answer None is = refl
    by_answer (Some after) is = (is after refl).owner

abbrev active_entries : List (Key × Account) → List (Key × Account)
active_entries es = map (λ (e : Key × Account). let d : Key × Account = (e.0, active e.1) in d) es

active_keys : (es : List (Key × Account)) → keys_of (active_entries es) ≡ keys_of es
active_keys [] = refl
active_keys (e ∷ es) = ap (λ (ks : List Key). e.0 ∷ ks) (active_keys es)

active_sized : (es : List (Key × Account)) → AllByRecursion IsSized es → AllByRecursion IsSized (active_entries es)
active_sized [] all = tt
active_sized (e ∷ es) all = ((all.0.0, subst IsKey (sym (active_owner e.1)) all.0.1), active_sized es all.1)

activated_sized : (s : State) → AreSized s → AreSized (activate_all s)
unfolding activate_all
activated_sized s all =
    subst (AllByRecursion IsSized)
    (sym (entries-from_entries key_cmp_total key_cmp_exact (active_entries (entries s)) (subst (IsStrictlySortedBy key_cmp) (sym (active_keys (entries s))) (sorted-entries key_cmp s))))
    (active_sized (entries s) all)

-- ---- the marks
inserted_hashes : (names : List Hash32) (name : Hash32) → AllByRecursion IsHash names → IsHash name → AllByRecursion IsHash (insert_key hash_cmp names name)
inserted_hashes [] name all is = (is, tt)
inserted_hashes (n ∷ ns) name all is = by_order (hash_cmp name n) (inserted_hashes ns name all.1 is)
  where
    by_order : (o : Ordering) → AllByRecursion IsHash (insert_key hash_cmp ns name) → AllByRecursion IsHash (match_ordering o (name ∷ n ∷ ns) (n ∷ ns) (n ∷ insert_key hash_cmp ns name))
    by_order Less rest = (is, all)
    by_order Equal rest = all
    by_order Greater rest = (all.0, rest)

ascending_hashes : (names : List Hash32) → AllByRecursion IsHash names → AllByRecursion IsHash (ascending names)
ascending_hashes [] all = tt
ascending_hashes (name ∷ names) all = inserted_hashes (ascending names) name (ascending_hashes names all.1) all.0

name_is_hash : (t : Chosen) → IsChosen t → IsHash t.name
name_is_hash t is = subst IsHash (sym is.named) (length-sha256 (message_bytes t.tx.message))

processed_hashes : (order : List Chosen) (outcomes : List Outcome) → AllByRecursion IsChosen order → AllByRecursion IsHash (processed_in order outcomes)
processed_hashes [] outcomes all = tt
processed_hashes (t ∷ ts) [] all = tt
processed_hashes (t ∷ ts) (outcome ∷ outcomes) all = by_status outcome.status (processed_hashes ts outcomes all.1)
  where
    by_status : (status : Status) → AllByRecursion IsHash (processed_in ts outcomes) → AllByRecursion IsHash (cons_option (processed_by t.name status) (processed_in ts outcomes))
    by_status Good rest = (name_is_hash t all.0, rest)
    by_status (Failed index cause detail) rest = (name_is_hash t all.0, rest)
    by_status (Dropped cause) rest = rest

-- ---- the snapshot
sized_entries : (es : List (Key × Account)) → AllByRecursion (λ (e : Key × Account). IsKey e.0) es → AllByRecursion (λ (e : Key × Account). IsKey e.1.owner) es → AllByRecursion IsSized es
sized_entries [] keys owners = tt
sized_entries (e ∷ es) keys owners = ((keys.0, owners.0), sized_entries es keys.1 owners.1)

sized_keys : (es : List (Key × Account)) → AllByRecursion IsSized es → AllByRecursion (λ (e : Key × Account). IsKey e.0) es
sized_keys [] all = tt
sized_keys (e ∷ es) all = (all.0.0, sized_keys es all.1)

sized_owners : (es : List (Key × Account)) → AllByRecursion IsSized es → AllByRecursion (λ (e : Key × Account). IsKey e.1.owner) es
sized_owners [] all = tt
sized_owners (e ∷ es) all = (all.0.1, sized_owners es all.1)

start_sized : (s : Snapshot) → HasWidths s → AreSized s.accounts
start_sized s has =
    sized_entries (entries s.accounts) (recursion_from_All (λ (e : Key × Account). IsKey e.0) (entries s.accounts) has.keys)
    (recursion_from_All (λ (e : Key × Account). IsKey e.1.owner) (entries s.accounts) has.owners)

after_wide : (s : Snapshot) (batch : Batch) (order : List Chosen) → AreWide s batch → All IsChosen order → AllByRecursion IsKeyed order → HasWidths (closed s (head_of batch) batch.wires order).after
unfolding closed serial_run
after_wide s batch order wide all keyed =
    let run : Ran = serial_run s batch.slot order in
    let mark : Mark = mark_of (closed s (head_of batch) batch.wires order).block.hash order run.outcomes in
    let accounts : State = activate_all (share_fees run.accounts batch.collector run.outcomes).accounts in
    let ran : AreSized run.accounts = states_sized (told_in s batch.slot order) all keyed s.accounts wide.can_run.0.state (start_sized s wide.snapshot) (length order) (omega arith) in
    let sized : AreSized accounts = activated_sized (share_fees run.accounts batch.collector run.outcomes).accounts (shared_fees_sized run.accounts batch.collector run.outcomes ran wide.collector) in
    let names : All IsHash mark.messages = All-from_recursion IsHash mark.messages
    (ascending_hashes (processed_in order run.outcomes) (processed_hashes order run.outcomes (recursion_from_All IsChosen order all))) in
    record {
      slot = wide.slot;
      hashes = All-take (λ (m : Mark). IsHash m.hash) max_marks (mark ∷ s.recent) (All-cons (λ (m : Mark). IsHash m.hash) mark s.recent (length-sha256 _) wide.snapshot.hashes);
      names = All-take (λ (m : Mark). All IsHash m.messages) max_marks (mark ∷ s.recent) (All-cons (λ (m : Mark). All IsHash m.messages) mark s.recent names wide.snapshot.names);
      keys = All-from_recursion (λ (e : Key × Account). IsKey e.0) (entries accounts) (sized_keys (entries accounts) sized);
      owners = All-from_recursion (λ (e : Key × Account). IsKey e.1.owner) (entries accounts) (sized_owners (entries accounts) sized);
    }

pub have_widths : SnapshotsAfterBlocksHaveWidths
unfolding block_result
have_widths s batch wide =
    after_wide s batch (order_of s batch) wide (admitted_fit s batch wide.can_run) (admitted_keyed (start_in s) batch.wires wide.can_run.1)

pub are_read : SnapshotsAfterBlocksAreRead
are_read s batch wide few accounts rest =
    round_trips (block_result s batch).after rest (next_blocks s batch wide.can_run few accounts).readable (have_widths s batch wide)
