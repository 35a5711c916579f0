-- No refusal says out of memory.
use Rattle.std.proofs.Common.{◌≡◌, ℕ, ◌+◌, ◌||◌, Bool, true, false, not, List, [], ◌∷◌, map, take, fold, refl, subst, Option, Some, None, option_map, Result, Ok, Err, All, nat_lt}
use Rattle.std.specs.Prelude.{◌==◌, if◌then◌else◌}
use Rattle.std.specs.List.{AllByRecursion, cons_option, enumerate_from, filter_map}
use Rattle.std.proofs.lemmas.List.Elements.{All-from_recursion}
use Rattle.spec_base.specs.Reading.{◌>>=◌, ok_if, first_or}
use Rattle.sol_base.specs.declared.account.Account.{Account}
use Rattle.sol_base.specs.declared.key.Hash32.{Hash32}
use Rattle.sol_base.specs.declared.limits.Limits.{Limits}
use Rattle.message_codec.specs.declared.fault.WireFault.{WireFault}
use Rattle.message_codec.specs.declared.message.Loaded.{Loaded}
use Rattle.message_codec.specs.declared.message.Lookup.{Lookup}
use Rattle.message_codec.specs.declared.message.Message.{Message}
use Rattle.message_codec.specs.declared.message.Tx.{Tx}
use Rattle.message_codec.specs.declared.parsed.Parsed.{Parsed}
use Rattle.message_codec.specs.Parsing.{parsed_by, parsed_of}
use Rattle.message_codec.specs.Wire.{message_name}
use Rattle.message_codec.specs.Roles.{all_keys, has_repeated_key, sanitized}
use Rattle.message_codec.specs.WireReading.{wire_of}
use Rattle.message_codec.proofs.Refusals.{refused_by_bytes}
use Rattle.fee_rules.specs.Budgets.{budget_in}
use Rattle.status_cache.specs.Recent.{has_hash, knows, processed}
use Rattle.account_store.specs.State.{State, get}
use Rattle.admission.specs.declared.chosen.Chosen.{Chosen}
use Rattle.admission.specs.declared.lookups.LookupFault.{LookupFault}
use Rattle.admission.specs.declared.lookups.LookupFault.TheVariants.{BadIndex, BadTable, RepeatedKey}
use Rattle.admission.specs.declared.refusal.Refusal.{Refusal}
use Rattle.admission.specs.declared.refusal.Refusal.TheVariants.{Sanitize as not_sane, Lookup as not_loaded, UnknownBlockhash, AlreadyProcessed, RepeatedInBatch, Budget as no_budget, BlockUnits, KeyUnits}
use Rattle.admission.specs.declared.refusal.Refused.{Refused}
use Rattle.admission.specs.Admission.{Start, Walk, admitted, as_cause, budgeted, late, late_cause, line, listed, or_else, passes_key_units, refusal, refusal_in, refused_in, sifted, sifted_in, sifted_out, standing_names, stands, units_of, walk, walk_with}
use Rattle.admission.specs.Lookups.{is_beyond, is_lookup_memory, is_table, load, loaded_in, lookup_fault, lookup_faults, table_fault}
use Rattle.admission.specs.Refusals.{is_refusal_memory}

-- the answer is no refusal for lack of memory
abbrev IsPlain : {X : Type 0} → Result X Refusal → Type 0
IsPlain (Ok x) = Unit {0}
IsPlain (Err cause) = is_refusal_memory cause ≡ false

-- and no cause says it
abbrev NoneOfMemory : Option Refusal → Type 0
NoneOfMemory None = Unit {0}
NoneOfMemory (Some cause) = is_refusal_memory cause ≡ false

onward : {X Y : Type 0} (r : Result X Refusal) (f : X → Result Y Refusal) → IsPlain r → ((x : X) → IsPlain (f x)) → IsPlain (r >>= f)
onward (Ok x) f plain later = later x
onward (Err cause) f plain later = plain

by_cause : {X E : Type 0} (cause : E → Refusal) (r : Result X E) → ((fault : E) → r ≡ Err fault → is_refusal_memory (cause fault) ≡ false) → IsPlain (as_cause cause r)
by_cause cause (Ok x) plain = tt
by_cause cause (Err fault) plain = plain fault refl

-- ---- lookups
abbrev IsPlainLookup : Option LookupFault → Type 0
IsPlainLookup None = Unit {0}
IsPlainLookup (Some fault) = is_lookup_memory fault ≡ false

table_plain : (place : ℕ) (lookup : Lookup) (o : Option Account) → IsPlainLookup (table_fault place lookup o)
table_plain place lookup None = refl
table_plain place lookup (Some table) = go (not (is_table table.bytes)) (is_beyond table.bytes lookup.writable || is_beyond table.bytes lookup.readonly)
  where
    go : (a b : Bool) → IsPlainLookup (if a then Some (BadTable place) else if b then Some (BadIndex place) else None)
    go true b = refl
    go false true = refl
    go false false = tt

faults_plain : (s : State) (n : ℕ) (lookups : List Lookup) → AllByRecursion (λ fault. is_lookup_memory fault ≡ false) (filter_map (lookup_fault s) (enumerate_from n lookups))
faults_plain s n [] = tt
faults_plain s n (lookup ∷ lookups) = go (lookup_fault s (n, lookup)) (table_plain n lookup (get s lookup.table)) (faults_plain s (n + 1) lookups)
  where
    go : (o : Option LookupFault) → IsPlainLookup o → AllByRecursion (λ fault. is_lookup_memory fault ≡ false) (filter_map (lookup_fault s) (enumerate_from (n + 1) lookups))
        → AllByRecursion (λ fault. is_lookup_memory fault ≡ false) (cons_option o (filter_map (lookup_fault s) (enumerate_from (n + 1) lookups)))
    go None plain more = more
    go (Some fault) plain more = (plain, more)

pub refused_by_tables : (s : State) (message : Message) (fault : LookupFault) → load s message ≡ Err fault → is_lookup_memory fault ≡ false
unfolding load
refused_by_tables s message fault e = go (lookup_faults s message.lookups) (has_repeated_key (all_keys message (loaded_in s message.lookups))) (faults_plain s 0 message.lookups) e
  where
    go : (faults : List LookupFault) (b : Bool)
        → AllByRecursion (λ fault. is_lookup_memory fault ≡ false) faults
        → first_or faults (if b then Err RepeatedKey else Ok (loaded_in s message.lookups)) ≡ Err fault
        → is_lookup_memory fault ≡ false
    go (first ∷ faults) b all e = let same : first ≡ fault = cc in subst (λ (f : LookupFault). is_lookup_memory f ≡ false) same all.0
    go [] true all e = let same : RepeatedKey ≡ fault = cc in subst (λ (f : LookupFault). is_lookup_memory f ≡ false) same refl
    go [] false all e = absurd (cc)

-- ---- one position
stands_plain : (start : Start) (tx : Tx) (name : Hash32) → IsPlain (stands start tx name)
unfolding stands
stands_plain start tx name =
    onward (as_cause not_sane (sanitized tx start.limits.keys)) _ (by_cause not_sane (sanitized tx start.limits.keys) (λ fault e. refl)) (λ u.
    onward (as_cause not_loaded (load start.state tx.message)) _ (by_cause not_loaded (load start.state tx.message) (λ fault e. refused_by_tables start.state tx.message fault e)) (λ loaded.
    go (knows start.marks tx.message.blockhash) (processed start.marks name) loaded))
  where
    go : (k p : Bool) (loaded : Loaded) → IsPlain (ok_if k UnknownBlockhash loaded >>= λ _. ok_if (not p) AlreadyProcessed loaded)
    go false p loaded = refl
    go true true loaded = refl
    go true false loaded = tt

sifted_plain : (start : Start) (is_before : Hash32 → Bool) (position : ℕ) (wire : List ℕ) → IsPlain (sifted start is_before position (parsed_of wire))
unfolding sifted
sifted_plain start is_before position wire = go (wire_of wire) refl
  where
    again : (b : Bool) (tx : Tx) (name : Hash32) (loaded : Loaded) → IsPlain (if b then Err RepeatedInBatch else budgeted position tx name loaded)
    again true tx name loaded = refl
    again false tx name loaded = onward (as_cause no_budget (budget_in tx.message)) _ (by_cause no_budget (budget_in tx.message) (λ fault e. refl)) (λ budget. tt)

    go : (r : Result Tx WireFault) → wire_of wire ≡ r → IsPlain (sifted start is_before position (parsed_by r))
    go (Err fault) e = refused_by_bytes wire fault e
    go (Ok tx) e = onward (stands start tx (message_name tx.message)) _
        (stands_plain start tx (message_name tx.message))
        (λ loaded. again (is_before (message_name tx.message)) tx (message_name tx.message) loaded)

-- ---- the walk
late_plain : (limits : Limits) (order : List Chosen) (one : Chosen) → NoneOfMemory (late limits order one)
late_plain limits order one = go (nat_lt limits.block_units (units_of order + one.budget.limit)) (passes_key_units limits order one)
  where
    go : (a b : Bool) → NoneOfMemory (if a then Some BlockUnits else if b then Some KeyUnits else None)
    go true b = refl
    go false true = refl
    go false false = tt

walked_plain : (limits : Limits) (before : Walk) (left : List Chosen) → AllByRecursion (λ refused. is_refusal_memory refused.cause ≡ false) before.refused
    → AllByRecursion (λ refused. is_refusal_memory refused.cause ≡ false) (fold (λ before one. walk_with before one (late limits before.order one)) before left).refused
walked_plain limits before [] all = all
walked_plain limits before (one ∷ left) all = walked_plain limits (walk_with before one (late limits before.order one)) left (go (late limits before.order one) (late_plain limits before.order one))
  where
    go : (o : Option Refusal) → NoneOfMemory o → AllByRecursion (λ refused. is_refusal_memory refused.cause ≡ false) (walk_with before one o).refused
    go None plain = all
    go (Some cause) plain = (plain, all)

-- ---- a batch
late_cause_plain : (refused : List Refused) (position : ℕ) → AllByRecursion (λ refused. is_refusal_memory refused.cause ≡ false) refused → NoneOfMemory (late_cause refused position)
late_cause_plain [] position all = tt
late_cause_plain (one ∷ refused) position all = go (one.position == position) (late_cause_plain refused position all.1)
  where
    go : (b : Bool) → NoneOfMemory (late_cause refused position) → NoneOfMemory (if b then Some one.cause else late_cause refused position)
    go true more = all.0
    go false more = more

causes_plain : (start : Start) (batch : List Parsed) (refused : List Refused) → AllByRecursion (λ refused. is_refusal_memory refused.cause ≡ false) refused → (n : ℕ) (wires : List (List ℕ))
    → AllByRecursion (λ refused. is_refusal_memory refused.cause ≡ false)
    (filter_map (λ entry. option_map
    (λ (cause : Refusal). let one : Refused = record { position = entry.0; cause = cause } in one)
    (refusal start batch refused entry)) (enumerate_from n (map parsed_of wires)))
causes_plain start batch refused all n [] = tt
causes_plain start batch refused all n (wire ∷ wires) =
    go (late_cause refused n) (late_cause_plain refused n all) (sifted_in start batch (n, parsed_of wire))
    (sifted_plain start (has_hash (standing_names start (take n batch))) n wire)
    (causes_plain start batch refused all (n + 1) wires)
  where
    rest : List Refused
    rest = filter_map (λ entry. option_map
        (λ (cause : Refusal). let one : Refused = record { position = entry.0; cause = cause } in one)
        (refusal start batch refused entry)) (enumerate_from (n + 1) (map parsed_of wires))

    go : (o : Option Refusal) → NoneOfMemory o → (r : Result Chosen Refusal) → IsPlain r → AllByRecursion (λ refused. is_refusal_memory refused.cause ≡ false) rest
        → AllByRecursion (λ refused. is_refusal_memory refused.cause ≡ false)
        (cons_option (option_map (λ (cause : Refusal). let one : Refused =
        record { position = n; cause = cause } in one) (or_else o (refusal_in r))) rest)
    go (Some cause) plain r early more = (plain, more)
    go None plain (Ok chosen) early more = more
    go None plain (Err cause) early more = (early, more)

module _ (start : Start) (wires : List (List ℕ)) where
  plain : (standing : List Chosen) → All (λ refused. is_refusal_memory refused.cause ≡ false) (refused_in start (map parsed_of wires) (walk start.limits standing).refused)
  plain standing =
      let late = walked_plain start.limits (record { order = []; refused = [] }) standing tt in
      All-from_recursion (λ (refused : Refused). is_refusal_memory refused.cause ≡ false)
      (refused_in start (map parsed_of wires) (walk start.limits standing).refused)
      (causes_plain start (map parsed_of wires) (walk start.limits standing).refused late 0 wires)

  pub refusals_by_priority_are_of_the_input : All (λ refused. is_refusal_memory refused.cause ≡ false) (admitted start wires).refused
  unfolding admitted
  refusals_by_priority_are_of_the_input = plain (line (sifted_out start (map parsed_of wires)))

  pub refusals_by_position_are_of_the_input : All (λ refused. is_refusal_memory refused.cause ≡ false) (listed start wires).refused
  unfolding listed
  refusals_by_position_are_of_the_input = plain (sifted_out start (map parsed_of wires))
