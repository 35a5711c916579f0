-- A record whose verdict is Match is the block that its entries come to.
use Rattle.std.proofs.Common.{◌≡◌, ◌+◌, ◌-◌, ◌≤◌, ◌<◌, ℕ, Bool, true, false, nat_eq, nat_lt, List, [], ◌∷◌, ◌++◌, length, map, drop, All, refl, sym, ap, ◌∙◌, arith, length-drop}
use Rattle.std.specs.Prelude.{Decides, MatchBool, slice_get, unwrap_or, ◌==◌}
use Rattle.std.specs.List.{AllByRecursion, enumerate_from, flat_map, zip}
use Rattle.std.specs.Int.{w64, to_le_bytes}
use Rattle.std.specs.Cmp.Lexicographic.{pointwise_decides}
use Rattle.std.proofs.lemmas.Bool.{eqb-true}
use Rattle.std.proofs.lemmas.Bool.Decides.{nat_tests}
use Rattle.std.proofs.lemmas.Option.{same_Some}
use Rattle.std.proofs.lemmas.List.{length-map}
use Rattle.std.proofs.lemmas.List.Elements.{recursion_from_All}
use Rattle.sol_base.specs.declared.key.Hash32.{Hash32}
use Rattle.sol_base.specs.Keys.{hash_bytes, same_hash}
use Rattle.sol_base.proofs.KeyLaws.{same_hash-Decides}
use Rattle.status_cache.specs.Recent.{newest_of}
use Rattle.tx_report.specs.Statuses.{IsStatus, status_bytes_of, status_from}
use Rattle.tx_report.proofs.StatusLaws.{status_from-status_bytes_of}
use Rattle.snapshot_codec.specs.declared.snapshot.Snapshot.{Snapshot}
use Rattle.block_record.specs.declared.block.Block.{Block}
use Rattle.block_record.specs.declared.block.Entry.{Entry}
use Rattle.block_record.specs.declared.block.Listed.{Listed}
use Rattle.admission.specs.declared.chosen.Admitted.{Admitted}
use Rattle.admission.specs.declared.chosen.Chosen.{Chosen}
use Rattle.admission.specs.declared.refusal.Refused.{Refused}
use Rattle.admission.specs.Admission.{listed}
use Rattle.block_end.specs.Ending.{AreOf}
use Rattle.block_run.specs.Blocks.{before_refused, closed, is_halted, listed_result, start_in, wires_of}
use Rattle.block_run.proofs.Calls.{head_again, listed_are_of, listed_cut}
use Rattle.block_run.proofs.Orders.{before_are_of}
use Rattle.block_replay.specs.declared.verdict.Field.{Field}
use Rattle.block_replay.specs.declared.verdict.Field.TheVariants.{Slot, Previous, Status as status_field, Units, Fee, Lines, Burned, Collected, State as state_field, Hash}
use Rattle.block_replay.specs.declared.verdict.Verdict.{Verdict}
use Rattle.block_replay.specs.declared.verdict.Verdict.TheVariants.{Match, Differ}
use Rattle.block_replay.specs.Verdict.{differences, entries_differences, entry_differences, head_differences, in_hash, in_lines, in_number, in_status, of_block, refused_entry, same_bytes, same_lines, tail_differences, unless, verdict}
use Rattle.block_laws.specs.Again.{wires_in}
use Rattle.answer_laws.specs.Matching.{IsItsBlock, MatchingRecordsAreTheBlock, RecordFits}
use Rattle.block_laws.proofs.Keeps.{listed_fit}
use Rattle.answer_laws.proofs.Listed.{whole_list}
use Rattle.block_laws.proofs.Records.{each_entry}
use Rattle.block_laws.proofs.Replays.{matches_itself, previous_is, wires_are}

-- ---- Match, and no difference
abbrev IsDiffer : Verdict → Type 0
IsDiffer Match = ⊥
IsDiffer (Differ entry field expected found) = Unit {0}

abbrev AllDiffer : List Verdict → Type 0
AllDiffer ds = AllByRecursion IsDiffer ds

both_differ : (ds es : List Verdict) → AllDiffer ds → AllDiffer es → AllDiffer (ds ++ es)
both_differ [] es a b = b
both_differ (d ∷ ds) es a b = (a.0, both_differ ds es a.1 b)

unless_differs : (b : Bool) (entry : ℕ) (field : Field) (expected found : List ℕ) → AllDiffer (unless b entry field expected found)
unless_differs true entry field expected found = tt
unless_differs false entry field expected found = (tt, tt)

number_differs : (entry : ℕ) (field : Field) (expected found : ℕ) → AllDiffer (in_number entry field expected found)
number_differs entry field expected found = unless_differs (expected == found) entry field (to_le_bytes w64 expected) (to_le_bytes w64 found)

hash_differs : (field : Field) (expected found : Hash32) → AllDiffer (in_hash of_block field expected found)
hash_differs field expected found = unless_differs (same_hash expected found) of_block field (hash_bytes expected) (hash_bytes found)

entry_differs : (n : ℕ) (g r : Entry) → AllDiffer (entry_differences (n, (g, r)))
entry_differs n g r =
    both_differ (in_status n g r ++ in_number n Units r.units g.units ++ in_number n Fee r.fee g.fee) (in_lines n g r)
    (both_differ (in_status n g r ++ in_number n Units r.units g.units) (in_number n Fee r.fee g.fee)
    (both_differ (in_status n g r) (in_number n Units r.units g.units) (unless_differs _ n status_field _ _) (number_differs n Units r.units g.units))
    (number_differs n Fee r.fee g.fee)) (unless_differs _ n Lines _ _)

pairs_differ : (ps : List (ℕ × (Entry × Entry))) → AllDiffer (flat_map entry_differences ps)
pairs_differ [] = tt
pairs_differ (p ∷ ps) = both_differ (entry_differences p) (flat_map entry_differences ps) (entry_differs p.0 p.1.0 p.1.1) (pairs_differ ps)

refused_differs : (place : ℕ) (es : List Entry) → AllDiffer (refused_entry place es)
refused_differs place [] = tt
refused_differs place (e ∷ es) = (tt, tt)

module _ (slot : ℕ) (newest : Hash32) (given replayed : Block) where
  abbrev heads : List Verdict
  heads = head_differences slot newest given

  abbrev pairs : List Verdict
  pairs = entries_differences given.entries replayed.entries

  abbrev left_out : List Verdict
  left_out = refused_entry (length replayed.entries) (drop (length replayed.entries) given.entries)

  abbrev tails : List Verdict
  tails = tail_differences given replayed

  heads_differ : AllDiffer heads
  heads_differ = both_differ (unless (nat_lt slot given.slot) of_block Slot (to_le_bytes w64 slot) (to_le_bytes w64 given.slot))
      (in_hash of_block Previous newest given.previous) (unless_differs (nat_lt slot given.slot) of_block Slot _ _) (hash_differs Previous newest given.previous)

  abbrev fees : List Verdict
  fees = in_number of_block Burned replayed.burned given.burned ++ in_number of_block Collected replayed.collected given.collected

  tails_differ : AllDiffer tails
  tails_differ =
      both_differ (fees ++ in_hash of_block state_field replayed.state given.state) (in_hash of_block Hash replayed.hash given.hash)
      (both_differ fees (in_hash of_block state_field replayed.state given.state)
      (both_differ (in_number of_block Burned replayed.burned given.burned) (in_number of_block Collected replayed.collected given.collected)
      (number_differs of_block Burned replayed.burned given.burned) (number_differs of_block Collected replayed.collected given.collected))
      (hash_differs state_field replayed.state given.state)) (hash_differs Hash replayed.hash given.hash)

  all_differ : AllDiffer (differences slot newest given replayed)
  all_differ = both_differ (heads ++ pairs ++ left_out) tails
      (both_differ (heads ++ pairs) left_out (both_differ heads pairs heads_differ (pairs_differ (enumerate_from 0 (zip given.entries replayed.entries))))
      (refused_differs (length replayed.entries) (drop (length replayed.entries) given.entries))) tails_differ

no_first : (ds : List Verdict) → AllDiffer ds → unwrap_or (slice_get ds 0) Match ≡ Match → ds ≡ []
no_first [] all h = refl
no_first (Match ∷ ds) all h = absurd all.0
no_first (Differ entry field expected found ∷ ds) all h = absurd (cc)

no_difference : (slot : ℕ) (newest : Hash32) (given : Block) (listed : Listed) → verdict slot newest given listed ≡ Match → differences slot newest given listed.block ≡ []
unfolding verdict
no_difference slot newest given listed h = no_first (differences slot newest given listed.block) (all_differ slot newest given listed.block) h

-- ---- what is the same where nothing differs
none_first : (ds es : List Verdict) → ds ++ es ≡ [] → ds ≡ []
none_first [] es h = refl
none_first (d ∷ ds) es h = absurd (cc)

none_second : (ds es : List Verdict) → ds ++ es ≡ [] → es ≡ []
none_second [] es h = h
none_second (d ∷ ds) es h = absurd (cc)

holds : (b : Bool) (entry : ℕ) (field : Field) (expected found : List ℕ) → unless b entry field expected found ≡ [] → b ≡ true
holds true entry field expected found h = refl
holds false entry field expected found h = absurd (cc)

number_is : (entry : ℕ) (field : Field) (expected found : ℕ) → in_number entry field expected found ≡ [] → expected ≡ found
number_is entry field expected found h = eqb-true expected found (holds (expected == found) entry field (to_le_bytes w64 expected) (to_le_bytes w64 found) h)

hash_is : (field : Field) (expected found : Hash32) → in_hash of_block field expected found ≡ [] → expected ≡ found
hash_is field expected found h = (same_hash-Decides expected found).0 (holds (same_hash expected found) of_block field (hash_bytes expected) (hash_bytes found) h)

number-Decides : (a b : ℕ) → Decides (nat_eq a b) (a ≡ b)
number-Decides a b = (λ h. grind (arith, nat_tests), λ e. grind (arith, nat_tests))

bytes-Decides : (xs ys : List ℕ) → Decides (same_bytes xs ys) (xs ≡ ys)
bytes-Decides = pointwise_decides number-Decides

status_is : (n : ℕ) (g r : Entry) → IsStatus g.status → IsStatus r.status → in_status n g r ≡ [] → r.status ≡ g.status
status_is n g r is_given is_replayed h =
    let expected = status_bytes_of r.status in
    let found = status_bytes_of g.status in
    let same : expected ≡ found = (bytes-Decides expected found).0 (holds (same_bytes expected found) n status_field expected found h) in
    same_Some r.status g.status (sym (status_from-status_bytes_of r.status is_replayed) ∙ ap status_from same ∙ status_from-status_bytes_of g.status is_given)

lines_are : (n : ℕ) (g r : Entry) → in_lines n g r ≡ [] → r.lines ≡ g.lines
lines_are n g r h = (pointwise_decides bytes-Decides r.lines g.lines).0 (holds (same_lines r.lines g.lines) n Lines _ _ h)

entry_is : (n : ℕ) (g r : Entry) → IsStatus g.status → IsStatus r.status → r.wire ≡ g.wire → entry_differences (n, (g, r)) ≡ [] → r ≡ g
entry_is n g r is_given is_replayed wire h =
    let a = in_status n g r in
    let b = in_number n Units r.units g.units in
    let c = in_number n Fee r.fee g.fee in
    let three = none_first (a ++ b ++ c) (in_lines n g r) h in
    let two = none_first (a ++ b) c three in
    let status = status_is n g r is_given is_replayed (none_first a b two) in
    let units = number_is n Units r.units g.units (none_second a b two) in
    let fee = number_is n Fee r.fee g.fee (none_second (a ++ b) c three) in
    let lines = lines_are n g r (none_second (a ++ b ++ c) (in_lines n g r) h) in
    λ i. record { wire = wire i; status = status i; units = units i; fee = fee i; lines = lines i }

abbrev AreStatuses : List Entry → Type 0
AreStatuses es = AllByRecursion (λ entry. IsStatus entry.status) es

abbrev entry_wires : List Entry → List (List ℕ)
entry_wires es = map (λ entry. entry.wire) es

entries_are : (n : ℕ) (gs rs : List Entry) → AreStatuses gs → AreStatuses rs → entry_wires rs ≡ entry_wires gs
    → flat_map entry_differences (enumerate_from n (zip gs rs)) ≡ [] → rs ≡ gs
entries_are n [] [] are_given are_replayed wires h = refl
entries_are n [] (r ∷ rs) are_given are_replayed wires h = absurd (cc)
entries_are n (g ∷ gs) [] are_given are_replayed wires h = absurd (cc)
entries_are n (g ∷ gs) (r ∷ rs) are_given are_replayed wires h =
    let wire : r.wire ≡ g.wire = cc in
    let others : entry_wires rs ≡ entry_wires gs = cc in
    let here = entry_differences (n, (g, r)) in
    let more = flat_map entry_differences (enumerate_from (n + 1) (zip gs rs)) in
    let first = entry_is n g r are_given.0 are_replayed.0 wire (none_first here more h) in
    let rest = entries_are (n + 1) gs rs are_given.1 are_replayed.1 others (none_second here more h) in
    λ i. first i ∷ rest i

none_left : (place : ℕ) (es : List Entry) → refused_entry place es ≡ [] → es ≡ []
none_left place [] h = refl
none_left place (e ∷ es) h = absurd (cc)

-- ---- a record and what its entries come to
none_refused : (refused : List Refused) (m n : ℕ) → MatchBool (is_halted refused) (m < n) (m ≡ n) → n ≤ m → refused ≡ []
none_refused [] m n cut most = refl
none_refused (one ∷ others) m n cut most = absurd (omega (arith, cut, most))

module _ (s : Snapshot) (given : Block) (fits : RecordFits s given) where
  abbrev wires : List (List ℕ)
  wires = wires_of given

  abbrev answer : Admitted
  answer = listed (start_in s) wires

  abbrev order : List Chosen
  order = before_refused answer.refused answer.order

  abbrev newest : Hash32
  newest = newest_of s.recent

  abbrev replayed : Block
  replayed = (closed s (head_again given) wires order).block

  abbrev once_more : Listed
  once_more = record { block = replayed; halted = is_halted answer.refused }

  listed_is : listed_result s given ≡ once_more
  unfolding listed_result
  listed_is = refl

  cut : MatchBool (is_halted answer.refused) (length replayed.entries < length given.entries) (length replayed.entries ≡ length given.entries)
  cut = listed_cut s given wires answer (closed s (head_again given) wires order) (is_halted answer.refused) fits.can_run.0 refl refl refl refl

  few : length wires ≤ 16384
  few = let c = fits.counted.entries in omega (arith, c, length-map given.entries (λ (entry : Entry). entry.wire))

  of : AreOf wires order
  of = before_are_of wires answer.refused answer.order (listed_are_of s wires answer fits.can_run.0 few refl)

  statuses : All (λ (entry : Entry). IsStatus entry.status) replayed.entries
  unfolding closed
  statuses = each_entry s (head_again given) wires order fits.can_run.0 (listed_fit s given fits.can_run) of (λ (entry : Entry). IsStatus entry.status) (λ t o is. is.status)

  slot_is : replayed.slot ≡ given.slot
  unfolding closed
  slot_is = refl

  collector_is : replayed.collector ≡ given.collector
  unfolding closed
  collector_is = refl

  module _ (none : differences s.slot newest given replayed ≡ []) where
    abbrev front : List Verdict
    front = heads s.slot newest given replayed ++ pairs s.slot newest given replayed

    abbrev rest : List Verdict
    rest = left_out s.slot newest given replayed

    to_rest : front ++ rest ≡ []
    to_rest = none_first (front ++ rest) (tails s.slot newest given replayed) none

    to_pairs : front ≡ []
    to_pairs = none_first front rest to_rest

    no_heads : heads s.slot newest given replayed ≡ []
    no_heads = none_first (heads s.slot newest given replayed) (pairs s.slot newest given replayed) to_pairs

    no_tails : tails s.slot newest given replayed ≡ []
    no_tails = none_second (front ++ rest) (tails s.slot newest given replayed) none

    later : s.slot < given.slot
    later =
        let slots = unless (nat_lt s.slot given.slot) of_block Slot (to_le_bytes w64 s.slot) (to_le_bytes w64 given.slot) in
        let test = holds (nat_lt s.slot given.slot) of_block Slot _ _ (none_first slots (in_hash of_block Previous newest given.previous) no_heads) in
        grind (arith, nat_tests, test)

    previous : replayed.previous ≡ given.previous
    previous =
        let slots = unless (nat_lt s.slot given.slot) of_block Slot (to_le_bytes w64 s.slot) (to_le_bytes w64 given.slot) in
        previous_is s (head_again given) wires order ∙ hash_is Previous newest given.previous (none_second slots (in_hash of_block Previous newest given.previous) no_heads)

    refused : answer.refused ≡ []
    refused =
        let left = none_left (length replayed.entries) (drop (length replayed.entries) given.entries) (none_second front rest to_rest) in
        let long : length given.entries - length replayed.entries ≡ 0 = sym (length-drop (length replayed.entries) given.entries) ∙ ap length left in
        none_refused answer.refused (length replayed.entries) (length given.entries) cut (omega (arith, long))

    same_wires : entry_wires replayed.entries ≡ entry_wires given.entries
    same_wires =
        wires_are s (head_again given) wires order
        ∙ ap (λ (rs : List Refused). wires_in wires (before_refused rs answer.order)) refused
        ∙ whole_list (start_in s) wires refused

    entries : replayed.entries ≡ given.entries
    entries = entries_are 0 given.entries replayed.entries (recursion_from_All (λ (entry : Entry). IsStatus entry.status) given.entries fits.widths.statuses)
        (recursion_from_All (λ (entry : Entry). IsStatus entry.status) replayed.entries statuses) same_wires
        (none_second (heads s.slot newest given replayed) (pairs s.slot newest given replayed) to_pairs)

    the_block : replayed ≡ given
    the_block =
        let a = in_number of_block Burned replayed.burned given.burned in
        let b = in_number of_block Collected replayed.collected given.collected in
        let c = in_hash of_block state_field replayed.state given.state in
        let d = in_hash of_block Hash replayed.hash given.hash in
        let three = none_first (a ++ b ++ c) d no_tails in
        let two = none_first (a ++ b) c three in
        let burned = number_is of_block Burned replayed.burned given.burned (none_first a b two) in
        let collected = number_is of_block Collected replayed.collected given.collected (none_second a b two) in
        let state = hash_is state_field replayed.state given.state (none_second (a ++ b) c three) in
        let hash = hash_is Hash replayed.hash given.hash (none_second (a ++ b ++ c) d no_tails) in
        λ i. record {
          slot = slot_is i;
          collector = collector_is i;
          previous = previous i;
          entries = entries i;
          burned = burned i;
          collected = collected i;
          state = state i;
          hash = hash i;
        }

    its_block : IsItsBlock s given
    its_block = record {
      later = later;
      same = listed_is ∙ (λ i. record { block = the_block i; halted = is_halted (refused i) });
    }

  to_block : verdict s.slot newest given (listed_result s given) ≡ Match → IsItsBlock s given
  to_block h = its_block (no_difference s.slot newest given once_more (sym (ap (verdict s.slot newest given) listed_is) ∙ h))

  to_match : IsItsBlock s given → verdict s.slot newest given (listed_result s given) ≡ Match
  to_match is =
      let previous : given.previous ≡ newest = ap (λ (l : Listed). l.block.previous) (sym is.same ∙ listed_is) ∙ previous_is s (head_again given) wires order in
      ap (verdict s.slot newest given) is.same ∙ matches_itself s.slot newest given false is.later previous

pub matching_records : MatchingRecordsAreTheBlock
matching_records s given fits = (to_block s given fits, to_match s given fits)
