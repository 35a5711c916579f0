-- The record at the end of a block, and the snapshot after it.
use Rattle.std.proofs.Common.{◌≡◌, ◌≤◌, ◌<◌, ◌+◌, ◌-◌, ◌==◌, ◌^◌, ◌∷◌, [], ℕ, suc, Bool, true, false, cond, List, length, take, Option, Some, None, All, refl, sym, ap, subst, ◌∙◌, arith}
use Rattle.std.specs.Prelude.{◌++◌, sum_by}
use Rattle.sha2.specs.Sha256.{sha256}
use Rattle.sol_base.specs.Keys.{hash_bytes}
use Rattle.block_record.proofs.RecordLaws.{block_ends}
use Rattle.std.specs.List.{AllByRecursion, cons_option, filter_map, zip}
use Rattle.std.specs.BTreeSet.{insert_key}
use Rattle.std.specs.FinMap as map
use Rattle.std.specs.Ordering.{match_ordering}
use Rattle.std.specs.declared.cmp.Ordering.{Ordering}
use Rattle.std.specs.declared.cmp.Ordering.TheVariants.{Less, Equal, Greater}
use Rattle.std.proofs.lemmas.List.{length-map}
use Rattle.std.proofs.lemmas.List.Elements.{All-cons, All-from_recursion, All-map, All-take, All-weaker, recursion_from_All}
use Rattle.std.proofs.lemmas.List.Sums.{sum_by-cons}
use Rattle.std.proofs.lemmas.Slice.Zip.{length-zip}
use Rattle.sol_base.specs.declared.key.Key.{Key}
use Rattle.sol_base.specs.declared.account.Account.{Account}
use Rattle.sol_base.proofs.KeyLaws.{key_cmp_total}
use Rattle.sol_base.specs.declared.key.Hash32.{Hash32}
use Rattle.sol_base.specs.Keys.{hash_cmp}
use Rattle.sol_base.specs.Limits.{max_transactions}
use Rattle.message_codec.specs.Wire.{IsCountable, max_wire_len}
use Rattle.fee_rules.specs.declared.split.FeeSplit.{FeeSplit}
use Rattle.fee_rules.specs.Fees.{split_of}
use Rattle.status_cache.specs.declared.recent.Mark.{Mark}
use Rattle.status_cache.specs.Recent.{Ascends, max_marks, newest_of}
use Rattle.tx_report.specs.declared.outcome.Outcome.{Outcome}
use Rattle.account_store.specs.State.{State, at, len, put}
use Rattle.snapshot_codec.specs.declared.snapshot.Snapshot.{Snapshot}
use Rattle.snapshot_codec.specs.Snapshot.{AreAllowed, IsWritable, hash_of_state}
use Rattle.sol_base.specs.declared.limits.Limits.{Limits}
use Rattle.block_record.specs.declared.block.Block.{Block}
use Rattle.block_record.specs.declared.block.Entry.{Entry}
use Rattle.block_record.specs.Record.{WholeRecord, AreCountable, IsCounted, bytes_of_record, front_bytes, whole_record}
use Rattle.admission.specs.declared.chosen.Chosen.{Chosen}
use Rattle.admission.specs.Batches.{IsOf}
use Rattle.tx_report.specs.Outcomes.{IsSmallOutcome}
use Rattle.block_end.specs.Ending.{Ran}
use Rattle.block_end.specs.BlockEnd.{Shares, base_fees, more, priority_fees, shares_at_end, share, share_fees}
use Rattle.block_end.specs.declared.block.Closed.{Closed}
use Rattle.block_end.specs.declared.block.Head.{Head}
use Rattle.block_end.specs.Blocks.{ascending, closed_with, unsealed, entries_of, entry_of, processed_by, processed_in, sealed}
use Rattle.block_end.specs.declared.block.RecordParts.{RecordParts}
use Rattle.block_end.specs.declared.closing.Ends.{Ends}
use Rattle.block_end.specs.Closing.{AreEnds, shares_of}
use Rattle.block_end.specs.Ending.{AreOf, MayEnd}
use Rattle.block_end.proofs.Activating.{len-activate_all}
use Rattle.block_end.proofs.Sorting.{ascending_ascends}

-- ---- the accounts
one_more : (b : Bool) (n : ℕ) → cond b n (n + 1) ≤ n + 1
one_more true n = omega arith
one_more false n = omega arith

none_more : (b : Bool) (n : ℕ) → cond b (n - 1) n ≤ n + 1
none_more true n = omega arith
none_more false n = omega arith

-- a write adds at most one account
pub len-put : (s : State) (k : Key) (a : Account) → len (put s k a) ≤ len s + 1
len-put s k a = elim (a.lamports == 0) as (λ b. len (cond b (map.remove s k) (map.insert s k a)) ≤ len s + 1) [
  | true ↦ subst (λ n. n ≤ len s + 1) (sym (map.len-remove key_cmp_total s k)) (none_more (map.contains_key s k) (len s))
  | false ↦ subst (λ n. n ≤ len s + 1) (sym (map.len-insert key_cmp_total s k a)) (one_more (map.contains_key s k) (len s))
]

either_few : (b : Bool) (n : ℕ) (s t : Shares) → len s.accounts ≤ n → len t.accounts ≤ n → len (cond b s t).accounts ≤ n
either_few true n s t a b = a
either_few false n s t a b = b

-- the collector is at most one account more
len-share : (s : State) (collector : Key) (split : FeeSplit) → len (share s collector split).accounts ≤ len s + 1
len-share s collector split =
    let paid = more (at s collector) split.rest in
    either_few _ (len s + 1) (record { accounts = put s collector paid; burned = split.burned; collected = split.rest }) (record { accounts = s; burned = split.burned + split.rest; collected = 0 })
    (len-put s collector paid) (omega arith)

pub few_at_end : (s : State) (collector : Key) (split : FeeSplit) → len s + 1 < 2 ^ 32 → len (shares_at_end s collector split).accounts < 2 ^ 32
few_at_end s collector split room =
    let a = len-share s collector split in
    let b = len-activate_all (share s collector split).accounts in
    omega (arith, a, b, room)

-- ---- the entries
-- lists of at least one byte each are no more, and none is longer, than all bytes
count_le_sum : (ls : List (List ℕ)) → AllByRecursion (λ line. 1 ≤ length line) ls → length ls ≤ sum_by length ls
count_le_sum [] h = omega arith
count_le_sum (l ∷ ls) h =
    let a = sum_by-cons (λ (line : List ℕ). length line) l ls in
    let rest = count_le_sum ls h.1 in
    let b = h.0 in
    omega (arith, a, b, rest)

each_le_sum : (most : ℕ) (ls : List (List ℕ)) → sum_by length ls ≤ most → AllByRecursion (λ line. length line ≤ most) ls
each_le_sum most [] h = tt
each_le_sum most (l ∷ ls) h =
    let a = sum_by-cons (λ (line : List ℕ). length line) l ls in
    (omega (arith, a, h), each_le_sum most ls (omega (arith, a, h)))

-- the lines of a small outcome have a spelling
pub lines_countable : (outcome : Outcome) → IsSmallOutcome outcome → AreCountable outcome.lines
lines_countable outcome small = record {
  few = let a = count_le_sum outcome.lines (recursion_from_All (λ line. 1 ≤ length line) outcome.lines small.filled) in let b = small.bytes in omega (arith, a, b);
  each = All-from_recursion IsCountable outcome.lines (each_le_sum 65535 outcome.lines (let b = small.bytes in omega (arith, b)));
}

-- what holds of each transaction and of each outcome holds of both beside each other
All-zip : {X Y : Type 0} (P : X → Type 0) (Q : Y → Type 0) (xs : List X) (ys : List Y) → AllByRecursion P xs → AllByRecursion Q ys → AllByRecursion (λ (e : X × Y). P e.0 × Q e.1) (zip xs ys)
All-zip P Q [] ys p q = tt
All-zip P Q (x ∷ xs) [] p q = tt
All-zip P Q (x ∷ xs) (y ∷ ys) p q = ((p.0, q.0), All-zip P Q xs ys p.1 q.1)

module _ (wires : List (List ℕ)) (order : List Chosen) (outcomes : List Outcome) (of : AreOf wires order) (small : All IsSmallOutcome outcomes) where
  both : All (λ (e : Chosen × Outcome). IsOf wires e.0 × IsSmallOutcome e.1) (zip order outcomes)
  both = All-from_recursion _ (zip order outcomes)
      (All-zip (IsOf wires) IsSmallOutcome order outcomes (recursion_from_All (IsOf wires) order of.each)
      (recursion_from_All IsSmallOutcome outcomes small))

  all_entries : (P : Entry → Type 0) → ((e : Chosen × Outcome) → IsOf wires e.0 × IsSmallOutcome e.1 → P (entry_of wires e)) → All P (entries_of wires order outcomes)
  all_entries P each = All-map P (entry_of wires) (zip order outcomes) (All-weaker _ (λ (e : Chosen × Outcome). P (entry_of wires e)) each (zip order outcomes) both)

  entries_few : length (entries_of wires order outcomes) ≤ max_transactions
  entries_few =
      let a = length-map (zip order outcomes) (entry_of wires) in
      let b = length-zip order outcomes in
      let c = of.few in
      omega (arith, a, b, c)

  -- a block of them can be counted
  pub block_counted : (block : Block) → block.entries ≡ entries_of wires order outcomes → IsCounted block
  block_counted block is = record {
    entries = subst (λ (es : List Entry). length es ≤ max_transactions) (sym is) entries_few;
    wires = subst (All (λ (entry : Entry). length entry.wire ≤ max_wire_len)) (sym is) (all_entries (λ (entry : Entry). length entry.wire ≤ max_wire_len) (λ e h. h.0.short));
    lines = subst (All (λ (entry : Entry). AreCountable entry.lines)) (sym is) (all_entries (λ (entry : Entry). AreCountable entry.lines) (λ e h. lines_countable e.1 h.1));
  }

-- ---- the marks
inserted_more : (r : Ordering) (n : ℕ) (a b c : List Hash32) → length a ≤ n → length b ≤ n → length c ≤ n → length (match_ordering r a b c) ≤ n
inserted_more Less n a b c x y z = x
inserted_more Equal n a b c x y z = y
inserted_more Greater n a b c x y z = z

length-inserted : (name : Hash32) (names : List Hash32) → length (insert_key hash_cmp names name) ≤ suc (length names)
length-inserted name [] = omega arith
length-inserted name (n ∷ ns) =
    let rest = length-inserted name ns in
    inserted_more (hash_cmp name n) (suc (suc (length ns))) (name ∷ n ∷ ns) (n ∷ ns) (n ∷ insert_key hash_cmp ns name) (omega arith) (omega arith) (omega (arith, rest))

length-ascending : (names : List Hash32) → length (ascending names) ≤ length names
length-ascending [] = omega arith
length-ascending (n ∷ ns) = let a = length-inserted n (ascending ns) in let b = length-ascending ns in omega (arith, a, b)

length-cons_option : {Y : Type 0} (o : Option Y) (ys : List Y) → length (cons_option o ys) ≤ suc (length ys)
length-cons_option None ys = omega arith
length-cons_option (Some y) ys = omega arith

length-filter_map : {X Y : Type 0} (f : X → Option Y) (xs : List X) → length (filter_map f xs) ≤ length xs
length-filter_map f [] = omega arith
length-filter_map f (x ∷ xs) = let a = length-cons_option (f x) (filter_map f xs) in let rest = length-filter_map f xs in omega (arith, a, rest)

pub names_few : (order : List Chosen) (outcomes : List Outcome) → length order ≤ max_transactions → length (ascending (processed_in order outcomes)) ≤ max_transactions
names_few order outcomes few =
    let a = length-ascending (processed_in order outcomes) in
    let b = length-filter_map (λ (e : Chosen × Outcome). processed_by e.0.name e.1.status) (zip order outcomes) in
    let c = length-zip order outcomes in
    omega (arith, a, b, c, few)

pub marks_few : (mark : Mark) (recent : List Mark) → length mark.messages ≤ max_transactions
    → All (λ mark. length mark.messages ≤ max_transactions) recent
    → All (λ mark. length mark.messages < 2 ^ 32) (take max_marks (mark ∷ recent))
marks_few mark recent one all =
    All-weaker (λ (m : Mark). length m.messages ≤ max_transactions) (λ (m : Mark). length m.messages < 2 ^ 32) (λ m h. omega (arith, h)) (take max_marks (mark ∷ recent))
    (All-take (λ (m : Mark). length m.messages ≤ max_transactions) max_marks (mark ∷ recent) (All-cons (λ (m : Mark). length m.messages ≤ max_transactions) mark recent one all))

-- ---- the end
-- a block and the snapshot after it, from their parts
pub closed_is : (s : Snapshot) (head : Head) (wires : List (List ℕ)) (order : List Chosen) (ran : Ran)
    (split : FeeSplit) (previous : Hash32) (shares : Shares) (state : Hash32) (known block : Block)
    (names : List Hash32) (recent : List Mark)
    → split ≡ split_of (base_fees ran.outcomes) (priority_fees ran.outcomes) → previous ≡ newest_of s.recent
    → shares ≡ shares_at_end ran.accounts head.collector split → state ≡ hash_of_state shares.accounts
    → known ≡ unsealed head previous wires order ran.outcomes → block ≡ sealed (record known { burned = shares.burned; collected = shares.collected; state = state })
    → names ≡ ascending (processed_in order ran.outcomes) → recent ≡ take max_marks (record { hash = block.hash; messages = names } ∷ s.recent)
    → (let end : Closed = record { block = block; after = record { slot = head.slot; limits = s.limits; recent = recent; accounts = shares.accounts } } in end) ≡ closed_with s head wires order ran
unfolding share_fees
closed_is s head wires order ran split previous shares state known block names recent e0 e1 e2 e3 e4 e5 e6 e7 = rw (e7, e6, e5, e4, e3, e2, e1, e0) refl

-- the block that a run ends with, and the snapshot after it
module _ (parts : RecordParts) (limits : Limits) (recent : List Mark) (ran : Ran) (ends : Ends) where
  abbrev pub known : Block
  known = unsealed parts.head.now parts.previous parts.wires.now parts.order.now ran.outcomes

  abbrev pub block_at_end : Block
  block_at_end = sealed (record known { burned = ends.end.burned; collected = ends.end.collected; state = ends.end.state })

  abbrev pub mark_at_end : Mark
  mark_at_end = record { hash = block_at_end.hash; messages = ends.names }

  abbrev pub after_at_end : Mark → Snapshot
  after_at_end mark = record { slot = parts.head.now.slot; limits = limits; recent = take max_marks (mark ∷ recent); accounts = ends.end.accounts }

  abbrev pub closed_at_end : Closed
  closed_at_end = record { block = block_at_end; after = after_at_end mark_at_end }

  pub ends_close : parts.previous ≡ newest_of recent → AreEnds parts ran ends
      → closed_at_end ≡ closed_with (record { slot = 0; limits = limits; recent = recent; accounts = ran.accounts }) parts.head.now parts.wires.now parts.order.now ran
  ends_close previous are =
      closed_is (record { slot = 0; limits = limits; recent = recent; accounts = ran.accounts }) parts.head.now parts.wires.now parts.order.now ran
      (split_of (base_fees ran.outcomes) (priority_fees ran.outcomes)) parts.previous (shares_of ends.end) ends.end.state known block_at_end ends.names (take max_marks (mark_at_end ∷ recent))
      refl previous are.end.shares are.end.state refl refl are.names refl

  pub end_writable : AreAllowed limits → All (λ mark. length mark.messages ≤ max_transactions) recent
      → MayEnd parts.wires.now parts.order.now ran → AreEnds parts ran ends → IsWritable closed_at_end.after
  end_writable allowed few may are = record {
    limits = allowed;
    messages = marks_few mark_at_end recent (subst (λ (names : List Hash32). length names ≤ max_transactions) (sym are.names) (names_few parts.order.now ran.outcomes may.of.few)) few;
    accounts = subst (λ (s : State). len s < 2 ^ 32) (sym (ap (λ (s : Shares). s.accounts) are.end.shares))
        (few_at_end ran.accounts parts.head.now.collector
        (split_of (base_fees ran.outcomes) (priority_fees ran.outcomes)) may.room);
  }

  -- the names of the mark ascend
  pub names_ascend : AreEnds parts ran ends → Ascends ends.names
  names_ascend are = subst Ascends (sym are.names) (ascending_ascends (processed_in parts.order.now ran.outcomes))

  -- a block is closed, from the block that was sealed
  pub closes_as : (before block : Block) (after : Snapshot) → before ≡ known → block ≡ sealed (record before { burned = ends.end.burned; collected = ends.end.collected; state = ends.end.state })
      → after ≡ after_at_end (record { hash = block.hash; messages = ends.names }) → ◌≡◌ {A = Closed} (record { block = block; after = after }) closed_at_end
  closes_as before block after is made then = rw (then, made, is) refl

  -- and from the front of the record
  pub whole_is : (front : List ℕ) (whole : WholeRecord) → front ≡ front_bytes known → whole ≡ whole_record front ends.end.burned ends.end.collected ends.end.state
      → whole ≡ record { bytes = bytes_of_record block_at_end; hash = block_at_end.hash }
  whole_is front whole is made =
      made ∙ ap (λ (bs : List ℕ). whole_record bs ends.end.burned ends.end.collected ends.end.state) is
      ∙ ap (λ (bs : List ℕ). let hash : Hash32 = record { 0 = sha256 bs } in let whole : WholeRecord = record { bytes = bs ++ hash_bytes hash; hash = hash } in whole)
      (block_ends (record known { burned = ends.end.burned; collected = ends.end.collected; state = ends.end.state }))
