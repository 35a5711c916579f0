-- What is known of the transactions that run.
use Rattle.std.proofs.Common.{◌≡◌, ℕ, ◌+◌, ◌<◌, ◌≤◌, Bool, true, false, not, List, [], ◌∷◌, ◌++◌, length, map, take, refl, sym, ap, ◌∙◌, subst, arith, Option, Some, None, Result, Ok, Err, IsOk, fold}
use Rattle.std.specs.Prelude.{if◌then◌else◌}
use Rattle.std.specs.Result.{result_ok}
use Rattle.std.specs.List.{AllByRecursion, IsDistinct, filter_map, cons_option, enumerate_from}
use Rattle.spec_base.specs.Reading.{◌>>=◌, ok_if, first_or}
use Rattle.sol_base.specs.declared.key.Hash32.{Hash32}
use Rattle.sol_base.specs.declared.limits.Limits.{Limits}
use Rattle.sol_base.specs.declared.lock.Lock.{Lock}
use Rattle.sol_base.specs.Keys.{same_key}
use Rattle.sol_base.specs.Locks.{lock_keys}
use Rattle.sol_base.specs.Limits.{max_transaction_keys}
use Rattle.message_codec.specs.declared.fault.SanitizeFault.{SanitizeFault}
use Rattle.message_codec.specs.declared.message.Loaded.{Loaded}
use Rattle.message_codec.specs.declared.message.Message.{Message}
use Rattle.message_codec.specs.declared.message.Tx.{Tx}
use Rattle.message_codec.specs.declared.parsed.Parsed.{Parsed}
use Rattle.message_codec.specs.declared.parsed.Parsed.TheVariants.{Good, Bad}
use Rattle.message_codec.specs.Roles.{HasAllLoaded, IsSane, all_keys, has_repeated_key, sanitized}
use Rattle.message_codec.specs.Parsing.{IsParsed, parsed_of}
use Rattle.message_codec.proofs.SaneLaws.{is_sane, are_distinct}
use Rattle.message_codec.proofs.RoleLaws.{keys_of_locks}
use Rattle.message_codec.proofs.WireLaws.{wire_again}
use Rattle.fee_rules.specs.declared.budget.Budget.{Budget}
use Rattle.fee_rules.specs.declared.budget.BudgetFault.{BudgetFault}
use Rattle.fee_rules.specs.Budgets.{budget_in}
use Rattle.status_cache.specs.Recent.{has_hash, knows, processed}
use Rattle.account_store.specs.State.{State}
use Rattle.admission.specs.declared.lookups.LookupFault.{LookupFault}
use Rattle.admission.specs.declared.lookups.LookupFault.TheVariants.{RepeatedKey}
use Rattle.admission.specs.declared.chosen.Chosen.{Chosen}
use Rattle.admission.specs.declared.refusal.Refusal.{Refusal}
use Rattle.admission.specs.declared.refusal.Refusal.TheVariants.{Sanitize as not_sane, Lookup as not_loaded, UnknownBlockhash, AlreadyProcessed, RepeatedInBatch, Budget as no_budget}
use Rattle.admission.specs.Lookups.{load, loaded_in, lookup_faults}
use Rattle.admission.specs.Chosen.{IsChosen}
use Rattle.admission.specs.Admission.{AreParsed, IsSound, Start, Walk, as_cause, chosen_with, late, sifted, sifted_in, sifted_out, stands, standing_names, walk, walk_with}
use Rattle.admission.proofs.LookupLaws.{loaded_counts}

-- what is loaded
pub load_ok : (s : State) (message : Message) (loaded : Loaded) → load s message ≡ Ok loaded → HasAllLoaded message loaded × IsDistinct same_key (all_keys message loaded)
unfolding load
load_ok s message loaded e = go (lookup_faults s message.lookups) (has_repeated_key (all_keys message (loaded_in s message.lookups))) refl e
  where
    go : (faults : List LookupFault) (b : Bool)
        → has_repeated_key (all_keys message (loaded_in s message.lookups)) ≡ b
        → first_or faults (if b then Err RepeatedKey else Ok (loaded_in s message.lookups)) ≡ Ok loaded
        → HasAllLoaded message loaded × IsDistinct same_key (all_keys message loaded)
    go (fault ∷ faults) b apart e = absurd (cc)
    go [] true apart e = absurd (cc)
    go [] false apart e =
        let same : loaded_in s message.lookups ≡ loaded = cc in
        (subst (HasAllLoaded message) same (loaded_counts s message.lookups), subst (λ (l : Loaded). IsDistinct same_key (all_keys message l)) same (are_distinct _ apart))

pub stands_ok : (start : Start) (tx : Tx) (name : Hash32) (loaded : Loaded) → stands start tx name ≡ Ok loaded → IsOk (sanitized tx start.limits.keys) × (load start.state tx.message ≡ Ok loaded)
unfolding stands
stands_ok start tx name loaded e = go (sanitized tx start.limits.keys) refl (load start.state tx.message) refl (knows start.marks tx.message.blockhash) (processed start.marks name) e
  where
    go : (a : Result (Unit {0}) SanitizeFault) → sanitized tx start.limits.keys ≡ a → (b : Result Loaded LookupFault) → load start.state tx.message ≡ b → (k p : Bool)
        → (as_cause not_sane a >>= λ _. as_cause not_loaded b >>= λ l. ok_if k UnknownBlockhash l >>= λ _. ok_if (not p) AlreadyProcessed l) ≡ Ok loaded
        → IsOk (sanitized tx start.limits.keys) × (load start.state tx.message ≡ Ok loaded)
    go (Err fault) ea b eb k p e = absurd (cc)
    go (Ok u) ea (Err fault) eb k p e = absurd (cc)
    go (Ok u) ea (Ok l) eb false p e = absurd (cc)
    go (Ok u) ea (Ok l) eb true true e = absurd (cc)
    go (Ok u) ea (Ok l) eb true false e = (rw ea refl, (let same : l ≡ loaded = cc in eb ∙ ap Ok same))

pub stands_sane : (start : Start) (tx : Tx) (name : Hash32) (loaded : Loaded) → stands start tx name ≡ Ok loaded → IsSane tx start.limits.keys
stands_sane start tx name loaded e = (is_sane tx start.limits.keys (sanitized tx start.limits.keys) refl).0 (stands_ok start tx name loaded e).0

-- what is sane for few keys is sane for more
pub sane_for_few_keys_is_sane_for_more : (tx : Tx) (few more : ℕ) → few ≤ more → IsSane tx few → IsSane tx more
sane_for_few_keys_is_sane_for_more tx few more fewer is = record {
  signatures = is.signatures;
  groups = is.groups;
  payer = is.payer;
  programs = is.programs;
  accounts = is.accounts;
  keys = omega (arith, is.keys, fewer);
  apart = is.apart;
  payer_free = is.payer_free;
  lookups = is.lookups;
}

-- the keys of its locks are distinct
pub locks_apart : (chosen : Chosen) → IsChosen chosen → IsDistinct same_key (lock_keys chosen.locks)
locks_apart chosen is = subst (IsDistinct same_key) (sym (ap (map (λ (lock : Lock). lock.key)) is.locked ∙ keys_of_locks chosen.tx.message chosen.loaded)) is.apart

pub chosen_is : (start : Start) (is_before : Hash32 → Bool) (position : ℕ) (parsed : Parsed) (chosen : Chosen)
    → start.limits.keys ≤ max_transaction_keys → IsSound parsed
    → sifted start is_before position parsed ≡ Ok chosen → IsChosen chosen × (chosen.position ≡ position)
unfolding sifted
chosen_is start is_before position (Bad fault) chosen few sound e = absurd (cc)
chosen_is start is_before position (Good tx name) chosen few sound e = go (stands start tx name) refl (is_before name) (budget_in tx.message) refl e
  where
    go : (a : Result Loaded Refusal) → stands start tx name ≡ a → (b : Bool) → (r : Result Budget BudgetFault) → budget_in tx.message ≡ r
        → (a >>= λ loaded. if b then Err RepeatedInBatch else
        (as_cause no_budget r >>= λ budget. Ok (chosen_with position tx name loaded budget))) ≡ Ok chosen
        → IsChosen chosen × (chosen.position ≡ position)
    go (Err cause) ea b r er e = absurd (cc)
    go (Ok loaded) ea true r er e = absurd (cc)
    go (Ok loaded) ea false (Err fault) er e = absurd (cc)
    go (Ok loaded) ea false (Ok budget) er e =
        let same : chosen_with position tx name loaded budget ≡ chosen = cc in
        let loads = load_ok start.state tx.message loaded (stands_ok start tx name loaded ea).1 in
        let is : IsChosen (chosen_with position tx name loaded budget) = record {
          sane = sane_for_few_keys_is_sane_for_more tx start.limits.keys max_transaction_keys few (stands_sane start tx name loaded ea);
          signatures = sound.1;
          lists = sound.0;
          loaded = loads.0;
          apart = loads.1;
          named = sound.2;
          budgeted = er;
          charged = refl;
          locked = refl;
        } in
        (subst IsChosen same is, ap (λ (one : Chosen). one.position) (sym same))

-- a transaction that stands in a batch of so many, from a position on
pub record StandsIn (from to : ℕ) (chosen : Chosen) : Type 0 where
  pub is : IsChosen chosen
  pub above : from ≤ chosen.position
  pub below : chosen.position < to

module _ (start : Start) (batch : List Parsed) (few : start.limits.keys ≤ max_transaction_keys) where
  from_lower : (from to : ℕ) (standing : List Chosen) → AllByRecursion (StandsIn (from + 1) to) standing → AllByRecursion (StandsIn from to) standing
  from_lower from to [] all = tt
  from_lower from to (one ∷ others) all =
      let above = all.0.above in
      (record { is = all.0.is; above = omega arith; below = all.0.below }, from_lower from to others all.1)

  stand_from : (n to : ℕ) (rest : List Parsed) → n + length rest ≡ to → AllByRecursion IsSound rest
      → AllByRecursion (StandsIn n to) (filter_map (λ entry. result_ok (sifted_in start batch entry)) (enumerate_from n rest))
  stand_from n to [] e sound = tt
  stand_from n to (x ∷ rest) e sound = go (sifted_in start batch (n, x)) refl (stand_from (n + 1) to rest (omega arith) sound.1)
    where
      go : (r : Result Chosen Refusal) → sifted_in start batch (n, x) ≡ r
          → AllByRecursion (StandsIn (n + 1) to) (filter_map (λ entry. result_ok (sifted_in start batch entry)) (enumerate_from (n + 1) rest))
          → AllByRecursion (StandsIn n to) (cons_option (result_ok r) (filter_map (λ entry. result_ok (sifted_in start batch entry)) (enumerate_from (n + 1) rest)))
      go (Err cause) er more = from_lower n to (filter_map (λ entry. result_ok (sifted_in start batch entry)) (enumerate_from (n + 1) rest)) more
      go (Ok chosen) er more =
          let is = chosen_is start (has_hash (standing_names start (take n batch))) n x chosen few sound.0 er in
          let at = is.1 in
          (record { is = is.0; above = omega arith; below = omega arith }, from_lower n to (filter_map (λ entry. result_ok (sifted_in start batch entry)) (enumerate_from (n + 1) rest)) more)

  pub stand_all : AllByRecursion IsSound batch → AllByRecursion (StandsIn 0 (length batch)) (sifted_out start batch)
  stand_all sound = stand_from 0 (length batch) batch (omega arith) sound

-- the walk keeps what holds of each
all_walked : (P : Chosen → Type 0) (limits : Limits) (before : Walk) (line : List Chosen)
    → AllByRecursion P before.order → AllByRecursion P line
    → AllByRecursion P (fold (λ before one. walk_with before one (late limits before.order one)) before
    line).order
all_walked P limits before [] b l = b
all_walked P limits before (one ∷ others) b l = all_walked P limits (walk_with before one (late limits before.order one)) others (go (late limits before.order one)) l.1
  where
    pushed : (xs : List Chosen) → AllByRecursion P xs → AllByRecursion P (xs ++ one ∷ [])
    pushed [] a = (l.0, tt)
    pushed (x ∷ xs) a = (a.0, pushed xs a.1)

    go : (o : Option Refusal) → AllByRecursion P (walk_with before one o).order
    go None = pushed before.order b
    go (Some cause) = b

pub all_run : (P : Chosen → Type 0) (limits : Limits) (line : List Chosen) → AllByRecursion P line → AllByRecursion P (walk limits line).order
all_run P limits line all = all_walked P limits (record { order = []; refused = [] }) line tt all

-- ---- what was read
parsed_is : (wire : List ℕ) (parsed : Parsed) → IsParsed wire parsed → (parsed ≡ parsed_of wire) × IsSound parsed
parsed_is wire (Good tx name) is =
    (sym (rw (wire_again wire tx is.0) (ap (Good tx) (sym is.1))), (is.0.lists, is.0.signatures, is.1))
parsed_is wire (Bad fault) is = (rw is.0 refl, is.1)

pub are_parsed : (wires : List (List ℕ)) (batch : List Parsed) → AreParsed wires batch → (batch ≡ map parsed_of wires) × AllByRecursion IsSound batch
are_parsed [] [] are = (refl, tt)
are_parsed [] (parsed ∷ batch) are = absurd are
are_parsed (wire ∷ wires) [] are = absurd are
are_parsed (wire ∷ wires) (parsed ∷ batch) are =
    let one = parsed_is wire parsed are.0 in
    let more = are_parsed wires batch are.1 in
    ((λ i. one.0 i ∷ more.0 i), (one.1, more.1))

pub parsed_more : (wires : List (List ℕ)) (batch : List Parsed) (wire : List ℕ) (parsed : Parsed) → AreParsed wires batch → IsParsed wire parsed → AreParsed (wires ++ wire ∷ []) (batch ++ parsed ∷ [])
parsed_more [] [] wire parsed are is = (is, tt)
parsed_more [] (x ∷ batch) wire parsed are is = absurd are
parsed_more (x ∷ wires) [] wire parsed are is = absurd are
parsed_more (x ∷ wires) (y ∷ batch) wire parsed are is = (are.0, parsed_more wires batch wire parsed are.1 is)
