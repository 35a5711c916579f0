-- The keys of a transaction that runs have 32 bytes each: those of its message, and those that it loads.
use Rattle.std.proofs.Common.{◌≡◌, ◌+◌, ◌-◌, ◌*◌, ◌%◌, ◌≤◌, ◌<◌, ◌==◌, ◌&&◌, ◌||◌, ℕ, Bool, true, false, not, List, [], ◌∷◌, ◌++◌, length, map, take, drop, All, Option, Some, None, Result, Ok, Err, refl, sym, ap, subst, ◌∙◌, arith, length-drop}
use Rattle.std.specs.Prelude.{nat_le, unwrap_or, if◌then◌else◌}
use Rattle.std.specs.List.{AllByRecursion, cons_option, enumerate_from, filter_map, list_any}
use Rattle.std.proofs.lemmas.Bool.Decides.{nat_tests}
use Rattle.std.proofs.lemmas.List.{length-take-le}
use Rattle.std.proofs.lemmas.List.Elements.{All-from_recursion, recursion_from_All}
use Rattle.spec_base.specs.Bytes.{IsBytes}
use Rattle.spec_base.specs.Reading.{◌>>=◌, first_or, ok_if}
use Rattle.spec_base.proofs.Binding.{bind_ok}
use Rattle.sol_base.specs.declared.account.Account.{Account}
use Rattle.sol_base.specs.declared.key.Hash32.{Hash32}
use Rattle.sol_base.specs.declared.key.Key.{Key}
use Rattle.sol_base.specs.Keys.{IsKey}
use Rattle.sol_base.specs.Accounts.{empty_account}
use Rattle.message_codec.specs.declared.fault.WireFault.{WireFault}
use Rattle.message_codec.specs.declared.message.Loaded.{Loaded}
use Rattle.message_codec.specs.declared.message.Lookup.{Lookup}
use Rattle.message_codec.specs.declared.message.Message.{Message}
use Rattle.message_codec.specs.declared.message.Tx.{Tx}
use Rattle.message_codec.specs.declared.parsed.Parsed.{Parsed}
use Rattle.message_codec.specs.declared.parsed.Parsed.TheVariants.{Good, Bad}
use Rattle.message_codec.specs.Parsing.{parsed_by, parsed_of}
use Rattle.message_codec.specs.Roles.{all_keys}
use Rattle.message_codec.specs.WireReading.{wire_of}
use Rattle.message_codec.proofs.WireLaws.{wire_takes}
use Rattle.fee_rules.specs.declared.budget.Budget.{Budget}
use Rattle.fee_rules.specs.declared.budget.BudgetFault.{BudgetFault}
use Rattle.fee_rules.specs.Budgets.{budget_in}
use Rattle.status_cache.specs.Recent.{has_hash, knows}
use Rattle.account_store.specs.State.{State, get}
use Rattle.admission.specs.declared.chosen.Chosen.{Chosen}
use Rattle.admission.specs.declared.lookups.LookupFault.{LookupFault}
use Rattle.admission.specs.declared.lookups.LookupFault.TheVariants.{BadIndex, BadTable, RepeatedKey}
use Rattle.admission.specs.declared.refusal.Refusal.{Refusal}
use Rattle.admission.specs.declared.refusal.Refusal.TheVariants.{Budget as no_budget, Lookup as not_loaded, RepeatedInBatch, Sanitize as not_sane, UnknownBlockhash}
use Rattle.admission.specs.Admission.{Start, admitted, as_cause, chosen_with, line, sifted, sifted_out, standing_names, stands}
use Rattle.admission.specs.Lookups.{address_at, address_count, if_apart, is_beyond, is_table, load, loaded_in, loaded_to_read, loaded_to_write, lookup_fault, picked, table_fault}
use Rattle.message_codec.specs.Roles.{has_repeated_key, sanitized}
use Rattle.admission.proofs.AnswerLaws.{all_run}
use Rattle.admission.proofs.LineLaws.{all_line}
use Rattle.admission.proofs.PartLaws.{all_standing}

abbrev pub AreKeys : List Key → Type 0
AreKeys keys = AllByRecursion IsKey keys

keys_append : (xs ys : List Key) → AreKeys xs → AreKeys ys → AreKeys (xs ++ ys)
keys_append [] ys a b = b
keys_append (x ∷ xs) ys a b = (a.0, keys_append xs ys a.1 b)

-- ---- the keys that lookups load
both_hold : (a b : Bool) → (a && b) ≡ true → (a ≡ true) × (b ≡ true)
both_hold true b e = (refl, e)
both_hold false b e = absurd (cc)

neither_holds : (a b : Bool) → (a || b) ≡ false → (a ≡ false) × (b ≡ false)
neither_holds true b e = absurd (cc)
neither_holds false b e = (refl, e)

address_is_key : (bytes : List ℕ) (index : ℕ) → 56 ≤ length bytes → index < address_count bytes → IsKey (address_at bytes index)
address_is_key bytes index long below =
    length-take-le 32 (drop (56 + 32 * index) bytes) (omega (arith, long, below, length-drop (56 + 32 * index) bytes))

addresses_are_keys : (bytes : List ℕ) (indexes : List ℕ) → is_table bytes ≡ true → is_beyond bytes indexes ≡ false → AreKeys (map (address_at bytes) indexes)
addresses_are_keys bytes [] table none = tt
addresses_are_keys bytes (index ∷ indexes) table none =
    let parts = neither_holds (nat_le (address_count bytes) index) (list_any (nat_le (address_count bytes)) indexes) none in
    let test = (both_hold (nat_le 56 (length bytes)) ((length bytes - 56) % 32 == 0) table).0 in
    let long : 56 ≤ length bytes = grind (arith, nat_tests) in
    let first = parts.0 in
    let below : index < address_count bytes = grind (arith, nat_tests) in
    (address_is_key bytes index long below, addresses_are_keys bytes indexes table parts.1)

-- the table of a lookup that has no fault
record HasTable (s : State) (lookup : Lookup) : Type 0 where
  account : Account
  there : get s lookup.table ≡ Some account
  table : is_table account.bytes ≡ true
  writable : is_beyond account.bytes lookup.writable ≡ false
  readonly : is_beyond account.bytes lookup.readonly ≡ false

has_table : (s : State) (place : ℕ) (lookup : Lookup) → lookup_fault s (place, lookup) ≡ None → HasTable s lookup
has_table s place lookup none = by_found (get s lookup.table) refl none
  where
    by_tests : (a : Account) → get s lookup.table ≡ Some a → (t w r : Bool) → is_table a.bytes ≡ t → is_beyond a.bytes lookup.writable ≡ w → is_beyond a.bytes lookup.readonly ≡ r
        → (if not t then Some (BadTable place) else if w || r then Some (BadIndex place) else None) ≡ None → HasTable s lookup
    by_tests a there false w r et ew er h = absurd (cc)
    by_tests a there true true r et ew er h = absurd (cc)
    by_tests a there true false true et ew er h = absurd (cc)
    by_tests a there true false false et ew er h = record { account = a; there = there; table = et; writable = ew; readonly = er }

    by_found : (o : Option Account) → get s lookup.table ≡ o → table_fault place lookup o ≡ None → HasTable s lookup
    by_found None there h = absurd (cc)
    by_found (Some a) there h = by_tests a there (is_table a.bytes) (is_beyond a.bytes lookup.writable) (is_beyond a.bytes lookup.readonly) refl refl refl h

picked_are_keys : (s : State) (lookup : Lookup) (indexes : List ℕ) (account : Account) → get s lookup.table ≡ Some account → is_table account.bytes ≡ true
    → is_beyond account.bytes indexes ≡ false → AreKeys (picked s lookup.table indexes)
picked_are_keys s lookup indexes account there table none =
    subst (λ (o : Option Account). AreKeys (map (address_at (unwrap_or o empty_account).bytes) indexes)) (sym there) (addresses_are_keys account.bytes indexes table none)

abbrev AreLoaded : State → List Lookup → Type 0
AreLoaded s lookups = AreKeys (loaded_to_write s lookups) × AreKeys (loaded_to_read s lookups)

lookups_load_keys : (s : State) (n : ℕ) (lookups : List Lookup) → filter_map (lookup_fault s) (enumerate_from n lookups) ≡ [] → AreLoaded s lookups
lookups_load_keys s n [] none = (tt, tt)
lookups_load_keys s n (lookup ∷ lookups) none = go (lookup_fault s (n, lookup)) refl (lookups_load_keys s (n + 1) lookups) none
  where
    go : (o : Option LookupFault) → lookup_fault s (n, lookup) ≡ o → (filter_map (lookup_fault s) (enumerate_from (n + 1) lookups) ≡ [] → AreLoaded s lookups)
        → cons_option o (filter_map (lookup_fault s) (enumerate_from (n + 1) lookups)) ≡ [] → AreLoaded s (lookup ∷ lookups)
    go (Some fault) is more h = absurd (cc)
    go None is more h =
        let t = has_table s n lookup is in
        let rest = more h in (
          keys_append (picked s lookup.table lookup.writable) (loaded_to_write s lookups) (picked_are_keys s lookup lookup.writable t.account t.there t.table t.writable) rest.0,
          keys_append (picked s lookup.table lookup.readonly) (loaded_to_read s lookups) (picked_are_keys s lookup lookup.readonly t.account t.there t.table t.readonly) rest.1,
        )

loads_keys : (s : State) (message : Message) (loaded : Loaded) → load s message ≡ Ok loaded → AreKeys loaded.writable × AreKeys loaded.readonly
unfolding load
loads_keys s message loaded h = by_faults (filter_map (lookup_fault s) (enumerate_from 0 message.lookups)) refl h
  where
    by_test : (b : Bool) → (let r : Result Loaded LookupFault = if b then Err RepeatedKey else Ok (loaded_in s message.lookups) in r) ≡ Ok loaded → loaded_in s message.lookups ≡ loaded
    by_test true e = absurd (cc)
    by_test false e = cc

    by_faults : (faults : List LookupFault) → filter_map (lookup_fault s) (enumerate_from 0 message.lookups) ≡ faults
        → first_or faults (if_apart message (loaded_in s message.lookups)) ≡ Ok loaded → AreKeys loaded.writable × AreKeys loaded.readonly
    by_faults (fault ∷ faults) is e = absurd (cc)
    by_faults [] is e =
        let same = by_test (has_repeated_key (all_keys message (loaded_in s message.lookups))) e in
        subst (λ (l : Loaded). AreKeys l.writable × AreKeys l.readonly) same (lookups_load_keys s 0 message.lookups is)

-- ---- one that stands
not_refused : {X E : Type 0} (cause : E → Refusal) (r : Result X E) (x : X) → as_cause cause r ≡ Ok x → r ≡ Ok x
not_refused cause (Ok y) x h = let same : y ≡ x = cc in ap Ok same
not_refused cause (Err e) x h = absurd (cc)

passed : {X E : Type 0} (test : Bool) (e : E) (x y : X) → ok_if test e x ≡ Ok y → x ≡ y
passed true e x y h = cc
passed false e x y h = absurd (cc)

stands_loaded : (start : Start) (tx : Tx) (name : Hash32) (loaded : Loaded) → stands start tx name ≡ Ok loaded → load start.state tx.message ≡ Ok loaded
unfolding stands
stands_loaded start tx name loaded h =
    let sane = bind_ok (as_cause not_sane (sanitized tx start.limits.keys)) _ loaded h in
    let read = bind_ok (as_cause not_loaded (load start.state tx.message)) _ loaded sane.2 in
    let known = bind_ok (ok_if (knows start.marks tx.message.blockhash) UnknownBlockhash read.0) _ loaded read.2 in
    let same : read.0 ≡ loaded = passed _ _ read.0 loaded known.2 in
    not_refused not_loaded (load start.state tx.message) read.0 read.1 ∙ ap Ok same

-- all its keys have 32 bytes
abbrev pub IsKeyed : Chosen → Type 0
IsKeyed t = AreKeys (all_keys t.tx.message t.loaded)

abbrev HasKeys : Parsed → Type 0
HasKeys (Good tx name) = AreKeys tx.message.keys
HasKeys (Bad fault) = Unit {0}

sifted_keyed : (start : Start) (is_before : Hash32 → Bool) (position : ℕ) (parsed : Parsed) (chosen : Chosen) → HasKeys parsed → sifted start is_before position parsed ≡ Ok chosen → IsKeyed chosen
unfolding sifted
sifted_keyed start is_before position (Bad fault) chosen keys h = absurd (cc)
sifted_keyed start is_before position (Good tx name) chosen keys h = go (stands start tx name) refl (is_before name) (budget_in tx.message) h
  where
    go : (a : Result Loaded Refusal) → stands start tx name ≡ a → (b : Bool) → (r : Result Budget BudgetFault)
        → (a >>= λ loaded. if b then Err RepeatedInBatch else
        (as_cause no_budget r >>= λ budget. Ok (chosen_with position tx name loaded budget))) ≡ Ok chosen
        → IsKeyed chosen
    go (Err cause) ea b r e = absurd (cc)
    go (Ok loaded) ea true r e = absurd (cc)
    go (Ok loaded) ea false (Err fault) e = absurd (cc)
    go (Ok loaded) ea false (Ok budget) e =
        let same : chosen_with position tx name loaded budget ≡ chosen = cc in
        let found = loads_keys start.state tx.message loaded (stands_loaded start tx name loaded ea) in
        subst IsKeyed same (keys_append (tx.message.keys ++ loaded.writable) loaded.readonly (keys_append tx.message.keys loaded.writable keys found.0) found.1)

has_keys : (wire : List ℕ) → IsBytes wire → HasKeys (parsed_of wire)
has_keys wire are = by_case (wire_of wire) refl
  where
    by_case : (r : Result Tx WireFault) → wire_of wire ≡ r → HasKeys (parsed_by r)
    by_case (Ok tx) e = recursion_from_All IsKey tx.message.keys (wire_takes wire tx are e).widths.keys
    by_case (Err fault) e = tt

all_have_keys : (wires : List (List ℕ)) → AllByRecursion IsBytes wires → AllByRecursion HasKeys (map parsed_of wires)
all_have_keys [] are = tt
all_have_keys (wire ∷ wires) are = (has_keys wire are.0, all_have_keys wires are.1)

module _ (start : Start) (wires : List (List ℕ)) (are : All IsBytes wires) where
  abbrev batch : List Parsed
  batch = map parsed_of wires

  standing_keyed : AllByRecursion IsKeyed (sifted_out start batch)
  standing_keyed = all_standing start batch IsKeyed (λ n x chosen within here e.
      sifted_keyed start (has_hash (standing_names start (take n batch))) n x chosen
      (subst HasKeys here (All-from_recursion HasKeys batch (all_have_keys wires (recursion_from_All IsBytes wires are)) n x within)) e)

  -- those that run by priority
  pub admitted_keyed : AllByRecursion IsKeyed (admitted start wires).order
  unfolding admitted
  admitted_keyed = all_run IsKeyed start.limits (line (sifted_out start batch)) (all_line IsKeyed (sifted_out start batch) standing_keyed)
