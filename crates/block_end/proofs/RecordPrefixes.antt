-- The front of a record, entry by entry.
use Rattle.std.proofs.Common.{◌≡◌, ◌≤◌, ◌+◌, ◌-◌, ◌∷◌, [], ◌++◌, ℕ, zero, suc, true, List, length, take, drop, map, refl, sym, ap, ap₂, subst, ◌∙◌, arith, append_assoc}
use Rattle.std.specs.List.{flat_map, zip}
use Rattle.std.proofs.lemmas.Grind.{flat_map-append}
use Rattle.std.proofs.lemmas.List.{append-nil, drop_at, length-drop, length-map, length-take-le, map-append, take_all, take_rest}
use Rattle.std.proofs.lemmas.Slice.Zip.{length-zip}
use Rattle.sha2.specs.declared.Sha256.{Sha256}
use Rattle.sha2.specs.Hashers.{Holds256}
use Rattle.tx_report.specs.declared.outcome.Outcome.{Outcome}
use Rattle.admission.specs.declared.chosen.Chosen.{Chosen}
use Rattle.block_record.specs.declared.block.Entry.{Entry}
use Rattle.block_record.specs.Record.{entry_bytes, front_bytes, heading_bytes}
use Rattle.block_record.proofs.RecordLaws.{front_is}
use Rattle.block_end.specs.declared.block.RecordParts.{RecordParts}
use Rattle.block_end.specs.declared.record_prefix.RecordPrefix.{RecordPrefix}
use Rattle.block_end.specs.Blocks.{entries_of, entry_of, unsealed}
use Rattle.block_end.specs.RecordPrefix.{IsAhead, IsBegun, IsWritten, bytes_up_to}

-- ---- lists beside each other
zip-nil : {X Y : Type 0} (xs : List X) → ◌≡◌ {A = List (X × Y)} (zip xs []) []
zip-nil [] = refl
zip-nil (x ∷ xs) = refl

-- no more of the first list is met than the second has
pub zip_least : {X Y : Type 0} (xs : List X) (ys : List Y) → zip (take (length ys) xs) ys ≡ zip xs ys
zip_least [] [] = refl
zip_least [] (y ∷ ys) = refl
zip_least (x ∷ xs) [] = refl
zip_least (x ∷ xs) (y ∷ ys) = ap (λ zs. (x, y) ∷ zs) (zip_least xs ys)

zip_parts : {X Y : Type 0} (xs : List X) (ys : List Y) (c n m : ℕ) → m ≡ c + n → zip xs (take m ys) ≡ zip xs (take c ys) ++ zip (drop c xs) (take n (drop c ys))
zip_parts xs ys zero n m e = ap (λ k. zip xs (take k ys)) (omega (arith, e)) ∙ ap (λ zs. zs ++ zip xs (take n ys)) (sym (zip-nil xs))
zip_parts xs ys (suc c) n zero e = absurd (omega (arith, e))
zip_parts [] ys (suc c) n (suc m) e = refl
zip_parts {X = X} {Y = Y} (x ∷ xs) [] (suc c) n (suc m) e = sym (nothing n)
  where
    nothing : (n : ℕ) → ◌≡◌ {A = List (X × Y)} (zip (drop c xs) (take n [])) []
    nothing zero = zip-nil (drop c xs)
    nothing (suc n) = zip-nil (drop c xs)
zip_parts (x ∷ xs) (y ∷ ys) (suc c) n (suc m) e = ap (λ zs. (x, y) ∷ zs) (zip_parts xs ys c n m (omega (arith, e)))

-- ---- entries
module _ (wires : List (List ℕ)) (order : List Chosen) where
  entries_parts : (outcomes : List Outcome) (c n : ℕ)
      → entries_of wires order (take (c + n) outcomes)
      ≡ entries_of wires order (take c outcomes) ++ entries_of wires (drop c order) (take n (drop c outcomes))
  entries_parts outcomes c n =
      ap (map (entry_of wires)) (zip_parts order outcomes c n (c + n) refl) ∙ map-append (entry_of wires) (zip order (take c outcomes)) (zip (drop c order) (take n (drop c outcomes)))

  -- the entries of some that follow each other
  pub next_entries : (told : List Outcome) (c n : ℕ) → n ≡ length told → entries_of wires (take n (drop c order)) told ≡ entries_of wires (drop c order) told
  next_entries told c n long = ap (λ m. entries_of wires (take m (drop c order)) told) long ∙ ap (map (entry_of wires)) (zip_least (drop c order) told)

-- ---- the hash
module _ (parts : RecordParts) where
  abbrev wires : List (List ℕ)
  wires = parts.wires.now

  abbrev order : List Chosen
  order = parts.order.now

  abbrev pub heading : List ℕ
  heading = heading_bytes parts.head.now.slot parts.head.now.collector parts.previous (length order)

  -- it begins with none
  pub begins : (outcomes : List Outcome) (begun : RecordPrefix) → begun.count ≡ 0 → Holds256 begun.hasher heading → begun.bytes ≡ heading → IsBegun parts outcomes begun
  begins outcomes begun none taken kept = record {
    within = subst (λ n. n ≤ length order) (sym none) (omega arith);
    taken = subst (Holds256 begun.hasher) (sym nothing) taken;
    kept = λ wanted. kept ∙ sym nothing;
  }
    where
      nothing : bytes_up_to parts (take begun.count outcomes) ≡ heading
      nothing =
          ap (λ n. bytes_up_to parts (take n outcomes)) none
          ∙ ap (λ (es : List (Chosen × Outcome)). heading ++ flat_map entry_bytes (map (entry_of wires) es)) (zip-nil order)
          ∙ append-nil heading

  -- the entries of the outcomes that come next stand behind those before
  pub bytes_next : (all told : List Outcome) (count : ℕ) → told ≡ take (length told) (drop count all)
      → bytes_up_to parts (take count all) ++ flat_map entry_bytes (entries_of wires (drop count order) told) ≡ bytes_up_to parts (take (count + length told) all)
  bytes_next all told count told_is =
      append_assoc heading (flat_map entry_bytes one) (flat_map entry_bytes two)
      ∙ ap (λ bs. heading ++ bs) (sym (flat_map-append entry_bytes one two) ∙ ap (flat_map entry_bytes) both)
    where
      one : List Entry
      one = entries_of wires order (take count all)

      two : List Entry
      two = entries_of wires (drop count order) told

      both : one ++ two ≡ entries_of wires order (take (count + length told) all)
      both = ap (λ (os : List Outcome). one ++ entries_of wires (drop count order) os) told_is ∙ sym (entries_parts wires order all count (length told))

  -- it goes on with the outcomes that come next
  pub goes_on : (all told : List Outcome) (begun next : RecordPrefix) → IsBegun parts all begun
      → told ≡ take (length told) (drop begun.count all) → begun.count + length told ≤ length order → next.count ≡ begun.count + length told
      → ((taken : List ℕ) → Holds256 begun.hasher taken → Holds256 next.hasher (taken ++ flat_map entry_bytes (entries_of wires (drop begun.count order) told)))
      → (parts.kept ≡ true → next.bytes ≡ begun.bytes ++ flat_map entry_bytes (entries_of wires (drop begun.count order) told))
      → IsBegun parts all next
  goes_on all told begun next is told_is within count hashes writes = record {
    within = subst (λ n. n ≤ length order) (sym count) within;
    taken = subst (Holds256 next.hasher) whole (hashes (bytes_up_to parts (take begun.count all)) is.taken);
    kept = λ wanted. writes wanted ∙ ap (λ (bs : List ℕ). bs ++ flat_map entry_bytes (entries_of wires (drop begun.count order) told)) (is.kept wanted) ∙ whole;
  }
    where
      whole : bytes_up_to parts (take begun.count all) ++ flat_map entry_bytes (entries_of wires (drop begun.count order) told) ≡ bytes_up_to parts (take next.count all)
      whole = bytes_next all told begun.count told_is ∙ ap (λ n. bytes_up_to parts (take n all)) (sym count)

  -- entries that were written go on while the last are hashed
  pub goes_ahead : (all told : List Outcome) (count next : ℕ) (before after : Sha256) (bytes last written new : List ℕ) → IsAhead parts all count before bytes last
      → told ≡ take (length told) (drop count all) → count + length told ≤ length order → next ≡ count + length told
      → ((taken : List ℕ) → Holds256 before taken → Holds256 after (taken ++ last))
      → new ≡ flat_map entry_bytes (entries_of wires (drop count order) told)
      → (parts.kept ≡ true → written ≡ bytes ++ new)
      → IsAhead parts all next after written new
  goes_ahead all told count next before after bytes last written new is told_is within so_many hashes so writes = record {
    hashed = is.hashed ++ last;
    within = subst (λ n. n ≤ length order) (sym so_many) within;
    taken = hashes is.hashed is.taken;
    whole = ap (λ (bs : List ℕ). bs ++ new) is.whole ∙ whole;
    kept = λ wanted. writes wanted ∙ ap (λ (bs : List ℕ). bs ++ new) (is.kept wanted) ∙ whole;
  }
    where
      whole : bytes_up_to parts (take count all) ++ new ≡ bytes_up_to parts (take next all)
      whole = ap (λ (bs : List ℕ). bytes_up_to parts (take count all) ++ bs) so ∙ bytes_next all told count told_is ∙ ap (λ n. bytes_up_to parts (take n all)) (sym so_many)

  -- none is written ahead at first
  pub ahead_of : (all : List Outcome) (begun : RecordPrefix) (last : List ℕ) → IsBegun parts all begun → last ≡ [] → IsAhead parts all begun.count begun.hasher begun.bytes last
  ahead_of all begun last is none = record {
    hashed = bytes_up_to parts (take begun.count all);
    within = is.within;
    taken = is.taken;
    whole = ap (λ (bs : List ℕ). bytes_up_to parts (take begun.count all) ++ bs) none ∙ append-nil (bytes_up_to parts (take begun.count all));
    kept = is.kept;
  }

  -- and in the end all are hashed
  pub ahead_ends : (all : List Outcome) (count : ℕ) (before : Sha256) (bytes last : List ℕ) (end : RecordPrefix) → IsAhead parts all count before bytes last → length all ≤ count
      → ((taken : List ℕ) → Holds256 before taken → Holds256 end.hasher (taken ++ last)) → end.bytes ≡ bytes → IsWritten parts all end
  ahead_ends all count before bytes last end is whole hashes same = record {
    taken = subst (Holds256 end.hasher) (is.whole ∙ ap (bytes_up_to parts) (take_all count all whole)) (hashes is.hashed is.taken);
    kept = λ wanted. same ∙ is.kept wanted ∙ ap (bytes_up_to parts) (take_all count all whole);
  }

  -- it is written once it has all
  pub is_written : (all : List Outcome) (begun : RecordPrefix) → IsBegun parts all begun → length all ≤ begun.count → IsWritten parts all begun
  is_written all begun is whole = record {
    taken = subst (λ (os : List Outcome). Holds256 begun.hasher (bytes_up_to parts os)) (take_all begun.count all whole) is.taken;
    kept = λ wanted. is.kept wanted ∙ ap (bytes_up_to parts) (take_all begun.count all whole);
  }

  -- and is then the front of the block
  pub front_written : (outcomes : List Outcome) → length outcomes ≡ length order → bytes_up_to parts outcomes ≡ front_bytes (unsealed parts.head.now parts.previous wires order outcomes)
  front_written outcomes one_each =
      ap (λ n. heading_bytes parts.head.now.slot parts.head.now.collector parts.previous n ++ flat_map entry_bytes (entries_of wires order outcomes)) (sym long)
      ∙ front_is (unsealed parts.head.now parts.previous wires order outcomes)
    where
      long : length (entries_of wires order outcomes) ≡ length order
      long = let a = length-map (zip order outcomes) (entry_of wires) in let b = length-zip order outcomes in omega (arith, a, b, one_each)

-- the part of a list up to some place is no longer than the rest
pub told_part : (all told : List Outcome) (c n : ℕ) → told ≡ take n (drop c all) → c + n ≤ length all → (length told ≡ n) × (told ≡ take (length told) (drop c all))
told_part all told c n is within = (long, is ∙ ap (λ m. take m (drop c all)) (sym long))
  where
    long : length told ≡ n
    long = ap length is ∙ length-take-le n (drop c all) (let l = length-drop c all in omega (arith, l, within))

-- what was put behind a list is what follows it
pub tail_is : (front more all : List ℕ) (from : ℕ) → all ≡ front ++ more → from ≡ length front → take (length all - from) (drop from all) ≡ more
tail_is front more all from is at = take_rest all from ∙ ap₂ (λ (n : ℕ) (bs : List ℕ). drop n bs) at is ∙ drop_at front more (length front) refl
