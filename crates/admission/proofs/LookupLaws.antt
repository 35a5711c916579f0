-- What lookups pick from their tables, and keys that are given again.
use Rattle.std.proofs.Common.{◌≡◌, ℕ, ◌+◌, ◌<◌, Bool, true, false, List, [], ◌∷◌, ◌++◌, length, take, map, get_or, refl, sym, ap, ◌∙◌, append_assoc, append-nil, length-append, arith, Some, None, Result, Ok, Err, sum_by, zero-add}
use Rattle.std.specs.Prelude.{nat_le, MatchBool, if◌then◌else◌}
use Rattle.std.specs.List.{list_any, filter_map, flat_map, enumerate_from, IsDistinct}
use Rattle.std.proofs.Math.Seq.{take-length}
use Rattle.std.proofs.lemmas.Bool.{both_ways}
use Rattle.std.proofs.lemmas.Bool.Decides.{nat_tests}
use Rattle.std.proofs.lemmas.List.{map_more, take_more, length-map}
use Rattle.std.proofs.lemmas.List.Concat.{flat_map-append}
use Rattle.std.proofs.lemmas.List.Folds.{list_any_at}
use Rattle.std.proofs.lemmas.List.Sums.{sum_by-cons}
use Rattle.std.proofs.lemmas.List.FromFn.{get_or-enumerate_from, length-enumerate_from}
use Rattle.spec_base.proofs.Filters.{nothing_more, first_found}
use Rattle.spec_base.specs.Reading.{first_or}
use Rattle.sol_base.specs.declared.key.Key.{Key}
use Rattle.sol_base.specs.Keys.{same_key}
use Rattle.message_codec.specs.declared.message.Loaded.{Loaded}
use Rattle.message_codec.specs.declared.message.Lookup.{Lookup}
use Rattle.message_codec.specs.declared.message.Message.{Message}
use Rattle.message_codec.specs.Roles.{HasAllLoaded, all_keys, has_repeated_key, load_count}
use Rattle.message_codec.proofs.SaneLaws.{no_repeated}
use Rattle.account_store.specs.State.{State}
use Rattle.admission.specs.declared.lookups.LookupFault.{LookupFault}
use Rattle.admission.specs.declared.lookups.LookupFault.TheVariants.{RepeatedKey}
use Rattle.admission.specs.Lookups.{if_apart, is_lookup_memory, load, loaded_in, loaded_to_read, loaded_to_write, lookup_fault, picked}

-- an index of which none is beyond the table
pub in_table : (count : ℕ) (indexes : List ℕ) (k : ℕ) → k < length indexes → list_any (nat_le count) indexes ≡ false → get_or indexes k 0 < count
in_table count indexes k l none = go (nat_le count (get_or indexes k 0)) refl
  where
    go : (t : Bool) → nat_le count (get_or indexes k 0) ≡ t → get_or indexes k 0 < count
    go true e = absurd (both_ways _ none (list_any_at (nat_le count) indexes k 0 l e))
    go false e = grind (arith, nat_tests)

-- one more of a list, each as f has it
pub mapped_more : {Y : Type 0} (f : ℕ → Y) (xs : List ℕ) (i : ℕ) (before old new : List Y) (y : Y) → i < length xs → y ≡ f (get_or xs i 0) → old ≡ before ++ map f (take i xs) → new ≡ old ++ y ∷ []
    → new ≡ before ++ map f (take (i + 1) xs)
mapped_more f xs i before old new y l is so_far pushed =
    pushed ∙ ap (λ ys. ys ++ y ∷ []) so_far ∙ append_assoc before (map f (take i xs)) (y ∷ [])
    ∙ ap (λ ys. before ++ ys) (ap (λ z. map f (take i xs) ++ z ∷ []) is ∙ sym (map_more f xs i 0 l))

-- ---- keys that are given again
-- ---- lookups
pub loaded_counts : (s : State) (lookups : List Lookup) → length (loaded_to_write s lookups) + length (loaded_to_read s lookups) ≡ sum_by load_count lookups
loaded_counts s [] = refl
loaded_counts s (lookup ∷ lookups) =
    let w : length (loaded_to_write s (lookup ∷ lookups))
    ≡ length (picked s lookup.table lookup.writable) + length (loaded_to_write s lookups) = length-append
    (picked s lookup.table lookup.writable) (loaded_to_write s lookups) in
    let r : length (loaded_to_read s (lookup ∷ lookups))
    ≡ length (picked s lookup.table lookup.readonly) + length (loaded_to_read s lookups) = length-append
    (picked s lookup.table lookup.readonly) (loaded_to_read s lookups) in
    let wl : length (picked s lookup.table lookup.writable) ≡ length lookup.writable = simp length-map in
    let rl : length (picked s lookup.table lookup.readonly) ≡ length lookup.readonly = simp length-map in
    let more = loaded_counts s lookups in
    let all = sum_by-cons load_count lookup lookups in
    omega (arith, w, r, wl, rl, more, all)

-- the lookups before a place have no fault, and load those keys
pub record AreLoaded (s : State) (lookups : List Lookup) (place : ℕ) (writable readonly : List Key) : Type 0 where
  pub fine : filter_map (lookup_fault s) (take place (enumerate_from 0 lookups)) ≡ []
  pub written : writable ≡ loaded_to_write s (take place lookups)
  pub read : readonly ≡ loaded_to_read s (take place lookups)

module _ (s : State) (lookups : List Lookup) (place : ℕ) (writable readonly : List Key)
    (so_far : AreLoaded s lookups place writable readonly) (x : Lookup) (below : place < length lookups)
    (is_x : x ≡ get_or lookups place x) where
  entry : get_or (enumerate_from 0 lookups) place (place, x) ≡ (place, x)
  entry = get_or-enumerate_from 0 lookups place (place, x) below ∙ (λ i. (zero-add place i, sym is_x i))

  within : place < length (enumerate_from 0 lookups)
  within = rw (length-enumerate_from 0 lookups) below

  loads_more : (f : Lookup → List Key) → flat_map f (take (place + 1) lookups) ≡ flat_map f (take place lookups) ++ f x
  loads_more f =
      ap (flat_map f) (take_more lookups place x below ∙ ap (λ y. take place lookups ++ y ∷ []) (sym is_x))
      ∙ flat_map-append f (take place lookups) (x ∷ []) ∙ ap (λ ys. flat_map f (take place lookups) ++ ys) (append-nil (f x))

  pub loaded_more : (more_written more_read : List Key) → lookup_fault s (place, x) ≡ None
      → more_written ≡ writable ++ picked s x.table x.writable
      → more_read ≡ readonly ++ picked s x.table x.readonly
      → AreLoaded s lookups (place + 1) more_written more_read
  loaded_more more_written more_read fine written read = record {
    fine = nothing_more (lookup_fault s) (enumerate_from 0 lookups) place (place, x) within so_far.fine (ap (lookup_fault s) entry ∙ fine);
    written = written ∙ ap (λ ys. ys ++ picked s x.table x.writable) so_far.written ∙ sym (loads_more (λ (lookup : Lookup). picked s lookup.table lookup.writable));
    read = read ∙ ap (λ ys. ys ++ picked s x.table x.readonly) so_far.read ∙ sym (loads_more (λ (lookup : Lookup). picked s lookup.table lookup.readonly));
  }

  -- the first fault is the answer
  pub refused : {X : Type 0} (fault : LookupFault) (answer : Result X LookupFault)
      → lookup_fault s (place, x) ≡ Some fault
      → first_or (filter_map (lookup_fault s) (enumerate_from 0 lookups)) answer ≡ Err fault
  refused fault answer e = ap (λ faults. first_or faults answer) (first_found (lookup_fault s) (enumerate_from 0 lookups) place (place, x) fault within so_far.fine (ap (lookup_fault s) entry ∙ e))

pub load_refused : (s : State) (message : Message) (fault : LookupFault)
    → first_or (filter_map (lookup_fault s) (enumerate_from 0 message.lookups))
    (if_apart message (loaded_in s message.lookups)) ≡ Err fault → load s message ≡ Err fault
unfolding load
load_refused s message fault e = e

pub or_memory : (fault : LookupFault) (read : Result Loaded LookupFault) → read ≡ Err fault → MatchBool (is_lookup_memory fault) (Unit {0}) (read ≡ Err fault)
or_memory fault read e = go (is_lookup_memory fault)
  where
    go : (b : Bool) → MatchBool b (Unit {0}) (read ≡ Err fault)
    go true = tt
    go false = e

module _ (s : State) (message : Message) (place : ℕ) (writable readonly : List Key) (so_far : AreLoaded s message.lookups place writable readonly) (over : place ≡ length message.lookups) where
  loaded : Loaded
  loaded = record { writable = writable; readonly = readonly }

  whole : take place message.lookups ≡ message.lookups
  whole = ap (λ n. take n message.lookups) over ∙ take-length message.lookups

  is_loaded : loaded_in s message.lookups ≡ loaded
  unfolding loaded
  is_loaded = λ i. record { writable = sym (so_far.written ∙ ap (loaded_to_write s) whole) i; readonly = sym (so_far.read ∙ ap (loaded_to_read s) whole) i }

  no_fault : filter_map (lookup_fault s) (enumerate_from 0 message.lookups) ≡ []
  no_fault =
      let all : take place (enumerate_from 0 message.lookups) ≡ enumerate_from 0 message.lookups =
      ap (λ n. take n (enumerate_from 0 message.lookups)) (over ∙ sym (length-enumerate_from 0 message.lookups)) ∙ take-length (enumerate_from 0 message.lookups) in
      ap (filter_map (lookup_fault s)) (sym all) ∙ so_far.fine

  -- after the last lookup the answer is by the repeated keys alone
  pub load_by : load s message ≡ if_apart message (record { writable = writable; readonly = readonly })
  unfolding load loaded
  load_by = λ i. first_or (no_fault i) (if_apart message (is_loaded i))

  pub loads_apart : has_repeated_key (all_keys message (record { writable = writable; readonly = readonly })) ≡ false → load s message ≡ Ok (record { writable = writable; readonly = readonly })
  loads_apart e = load_by ∙ ap (λ t. if t then Err RepeatedKey else Ok (record { writable = writable; readonly = readonly })) e

  pub loads_again : has_repeated_key (all_keys message (record { writable = writable; readonly = readonly })) ≡ true → load s message ≡ Err RepeatedKey
  loads_again e = load_by ∙ ap (λ t. if t then Err RepeatedKey else Ok (record { writable = writable; readonly = readonly })) e

  pub has_all : HasAllLoaded message (record { writable = writable; readonly = readonly })
  has_all =
      let w : length writable ≡ length (loaded_to_write s message.lookups) = ap length (so_far.written ∙ ap (loaded_to_write s) whole) in
      let r : length readonly ≡ length (loaded_to_read s message.lookups) = ap length (so_far.read ∙ ap (loaded_to_read s) whole) in
      let n = loaded_counts s message.lookups in
      omega (arith, w, r, n)

-- without lookups nothing is loaded, and no key is given again
pub none_loaded : (message : Message) (loaded : Loaded) → loaded ≡ record { writable = []; readonly = [] } → IsDistinct same_key message.keys → false ≡ has_repeated_key (all_keys message loaded)
none_loaded message loaded e d =
    let keys : all_keys message loaded ≡ message.keys = ap (all_keys message) e ∙ append-nil (message.keys ++ []) ∙ append-nil message.keys in
    sym (ap has_repeated_key keys ∙ no_repeated message.keys d)
