-- What is known of a message's budget after its first instructions.
use Rattle.std.proofs.Common.{◌≡◌, ℕ, ◌+◌, ◌<◌, ◌≤◌, Bool, true, false, not, List, [], ◌∷◌, ◌++◌, length, take, get_or, refl, sym, ap, ◌∙◌, Option, Some, None, is_some, Ok, Err, arith, if◌then◌else◌, slice_get, zero-add, append-nil, Result}
use Rattle.std.proofs.lemmas.List.Sums.{count_by_more_yes, count_by_more_no}
use Rattle.std.specs.List.{filter_map, cons_option, enumerate_from}
use Rattle.std.proofs.Math.Seq.{take-length}
use Rattle.std.proofs.lemmas.List.{take_more}
use Rattle.std.proofs.lemmas.List.Elements.{filter_map-append}
use Rattle.std.proofs.lemmas.List.FromFn.{get_or-enumerate_from, length-enumerate_from}
use Rattle.spec_base.proofs.Filters.{nothing_more, first_found}
use Rattle.spec_base.specs.Reading.{first_or}
use Rattle.sol_base.specs.declared.key.Key.{Key}
use Rattle.message_codec.specs.declared.message.Instruction.{Instruction}
use Rattle.message_codec.specs.declared.message.Message.{Message}
use Rattle.fee_rules.specs.declared.request.Request.{Request}
use Rattle.fee_rules.specs.declared.request.Request.TheVariants.{HeapFrame, UnitLimit, UnitPrice, LoadedLimit}
use Rattle.fee_rules.specs.declared.request.Asked.{Asked}
use Rattle.fee_rules.specs.declared.budget.BudgetFault.TheVariants.{BadBudget, RepeatedBudget}
use Rattle.fee_rules.specs.Requests.{asked_of, asked_with, first_asked, has_asked, heap_in, limit_in, loaded_in, price_in, request_of}
use Rattle.fee_rules.specs.Budgets.{budget_for, budget_in, fault_at, fault_of, faults_in, is_budget, others_in, request_in, requests_in}
use Rattle.fee_rules.specs.declared.budget.BudgetFault.{BudgetFault}

-- ---- requests
first_more : (xs : List ℕ) (o : Option ℕ) → is_some (slice_get xs 0) ≡ false → slice_get (xs ++ cons_option o []) 0 ≡ o
first_more [] None none = refl
first_more [] (Some x) none = refl
first_more (y ∷ xs) o none = absurd (cc)

-- a request of a kind that is not there yet is its first
first_of_kind : (kind : Request → Option ℕ) (requests : List Request) (request : Request) → is_some (first_asked kind requests) ≡ false → first_asked kind (requests ++ request ∷ []) ≡ kind request
first_of_kind kind requests request none = rw (filter_map-append kind requests (request ∷ [])) (first_more (filter_map kind requests) (kind request) none)

-- a request of another kind changes nothing
other_kind : (kind : Request → Option ℕ) (requests : List Request) (request : Request) → kind request ≡ None → first_asked kind (requests ++ request ∷ []) ≡ first_asked kind requests
other_kind kind requests request other = ap (λ xs. slice_get xs 0)
    (filter_map-append kind requests (request ∷ [])
    ∙ ap (λ o. filter_map kind requests ++ cons_option o []) other ∙ append-nil (filter_map kind requests))

asked_more : (requests : List Request) (request : Request) → has_asked (asked_of requests) request ≡ false → asked_with (asked_of requests) request ≡ asked_of (requests ++ request ∷ [])
asked_more requests (HeapFrame n) none = λ i.
    record {
      heap = sym (first_of_kind heap_in requests (HeapFrame n) none) i;
      limit = sym
          (other_kind limit_in requests (HeapFrame n) refl) i;
      price = sym
          (other_kind price_in requests (HeapFrame n) refl) i;
      loaded = sym
          (other_kind loaded_in requests (HeapFrame n) refl) i;
    }
asked_more requests (UnitLimit n) none = λ i.
    record {
      heap = sym (other_kind heap_in requests (UnitLimit n) refl) i;
      limit = sym
          (first_of_kind limit_in requests (UnitLimit n) none) i;
      price = sym
          (other_kind price_in requests (UnitLimit n) refl) i;
      loaded = sym
          (other_kind loaded_in requests (UnitLimit n) refl) i;
    }
asked_more requests (UnitPrice n) none = λ i.
    record {
      heap = sym (other_kind heap_in requests (UnitPrice n) refl) i;
      limit = sym
          (other_kind limit_in requests (UnitPrice n) refl) i;
      price = sym
          (first_of_kind price_in requests (UnitPrice n) none) i;
      loaded = sym
          (other_kind loaded_in requests (UnitPrice n) refl) i;
    }
asked_more requests (LoadedLimit n) none = λ i.
    record {
      heap = sym (other_kind heap_in requests (LoadedLimit n) refl) i;
      limit = sym
          (other_kind limit_in requests (LoadedLimit n) refl) i;
      price = sym
          (other_kind price_in requests (LoadedLimit n) refl) i;
      loaded = sym
          (first_of_kind loaded_in requests (LoadedLimit n) none) i;
    }

-- ---- instructions
-- the first n instructions have no fault, ask for that, and are so many beside their requests
pub record IsSoFar (keys : List Key) (instructions : List Instruction) (n : ℕ) (asked : Asked) (others : ℕ) : Type 0 where
  pub none_wrong : filter_map (fault_at keys instructions) (take n (enumerate_from 0 instructions)) ≡ []
  pub asks : asked ≡ asked_of (requests_in keys (take n instructions))
  pub counted : others ≡ others_in keys (take n instructions)
  pub few : others ≤ n

module _ (keys : List Key) (instructions : List Instruction) (n : ℕ) (asked : Asked) (others : ℕ)
    (so_far : IsSoFar keys instructions n asked others) (x : Instruction) (below : n < length instructions)
    (is_x : x ≡ get_or instructions n x) where
  entry : get_or (enumerate_from 0 instructions) n (n, x) ≡ (n, x)
  entry = get_or-enumerate_from 0 instructions n (n, x) below ∙ (λ i. (zero-add n i, sym is_x i))

  within : n < length (enumerate_from 0 instructions)
  within = rw (length-enumerate_from 0 instructions) below

  -- the requests of one more instruction
  requests_next : requests_in keys (take (n + 1) instructions) ≡ requests_in keys (take n instructions) ++ cons_option (request_in keys x) []
  requests_next = ap (filter_map (request_in keys))
      (take_more instructions n x below ∙ ap (λ y. take n instructions ++ y ∷ []) (sym is_x))
      ∙ filter_map-append (request_in keys) (take n instructions) (x ∷ [])

  -- its fault
  fault_here : (b : Bool) → is_budget keys x ≡ b → fault_at keys instructions (get_or (enumerate_from 0 instructions) n (n, x)) ≡ (if b then fault_of asked (request_of x.input) n else None)
  fault_here b is = ap (fault_at keys instructions) entry ∙ (λ i. if is i then fault_of (sym so_far.asks i) (request_of x.input) n else None)

  request_here : (b : Bool) → is_budget keys x ≡ b → request_in keys x ≡ (if b then request_of x.input else None)
  request_here b is = ap (λ t. if t then request_of x.input else None) is

  pub other : is_budget keys x ≡ false → IsSoFar keys instructions (n + 1) asked (others + 1)
  other is = record {
    none_wrong = nothing_more (fault_at keys instructions) (enumerate_from 0 instructions) n (n, x) within so_far.none_wrong (fault_here false is);
    asks = so_far.asks ∙ ap asked_of
        (sym (requests_next ∙ ap (λ o. requests_in keys (take n instructions) ++ cons_option o [])
        (request_here false is) ∙ append-nil (requests_in keys (take n instructions))));
    counted = ap (λ m. m + 1) so_far.counted ∙ sym (count_by_more_yes (λ i. not (is_budget keys i)) instructions n x below (ap (λ i. not (is_budget keys i)) (sym is_x) ∙ ap not is));
    few = let few = so_far.few in omega arith;
  }

  pub request : (r : Request) → is_budget keys x ≡ true → request_of x.input ≡ Some r → has_asked asked r ≡ false → IsSoFar keys instructions (n + 1) (asked_with asked r) others
  request r is spells none = record {
    none_wrong = nothing_more (fault_at keys instructions) (enumerate_from 0 instructions) n (n, x) within
        so_far.none_wrong (fault_here true is ∙ ap (λ o. fault_of asked o n) spells
        ∙ ap (λ b. if b then Some (RepeatedBudget n) else None) none);
    asks = ap (λ a. asked_with a r) so_far.asks
        ∙ asked_more (requests_in keys (take n instructions)) r
        (ap (λ a. has_asked a r) (sym so_far.asks) ∙ none)
        ∙ ap asked_of (sym (requests_next
        ∙ ap (λ o. requests_in keys (take n instructions) ++ cons_option o [])
        (request_here true is ∙ spells)));
    counted = so_far.counted ∙ sym (count_by_more_no (λ i. not (is_budget keys i)) instructions n x below (ap (λ i. not (is_budget keys i)) (sym is_x) ∙ ap not is));
    few = let few = so_far.few in omega arith;
  }

  pub bad : is_budget keys x ≡ true → request_of x.input ≡ None → {X : Type 0} (answer : Result X BudgetFault) → first_or (faults_in keys instructions) answer ≡ Err (BadBudget n)
  bad is spells answer = ap (λ faults. first_or faults answer)
      (first_found (fault_at keys instructions) (enumerate_from 0 instructions) n (n, x) (BadBudget n) within
      so_far.none_wrong (fault_here true is ∙ ap (λ o. fault_of asked o n) spells))

  pub repeated : (r : Request) → is_budget keys x ≡ true → request_of x.input ≡ Some r
      → has_asked asked r ≡ true → {X : Type 0} (answer : Result X BudgetFault)
      → first_or (faults_in keys instructions) answer ≡ Err (RepeatedBudget n)
  repeated r is spells again answer = ap (λ faults. first_or faults answer)
      (first_found (fault_at keys instructions) (enumerate_from 0 instructions) n (n, x) (RepeatedBudget n)
      within so_far.none_wrong (fault_here true is ∙ ap (λ o. fault_of asked o n) spells
      ∙ ap (λ b. if b then Some (RepeatedBudget n) else None) again))

-- after the last instruction
pub all_asked : (message : Message) (n : ℕ) (asked : Asked) (others : ℕ)
    → IsSoFar message.keys message.instructions n asked others → n ≡ length message.instructions
    → budget_in message ≡ Ok (budget_for asked others)
unfolding budget_in
all_asked message n asked others so_far over =
    let whole : take n message.instructions ≡ message.instructions = ap (λ m. take m message.instructions) over ∙ take-length message.instructions in
    let all : take n (enumerate_from 0 message.instructions)
    ≡ enumerate_from 0 message.instructions = ap (λ m. take m (enumerate_from 0 message.instructions))
    (over ∙ sym (length-enumerate_from 0 message.instructions))
    ∙ take-length (enumerate_from 0 message.instructions) in
    let none : faults_in message.keys message.instructions ≡ [] = ap (filter_map (fault_at message.keys message.instructions)) (sym all) ∙ so_far.none_wrong in
    let asks : asked_of (requests_in message.keys message.instructions) ≡ asked = ap (λ is. asked_of (requests_in message.keys is)) (sym whole) ∙ sym so_far.asks in
    let counted : others_in message.keys message.instructions ≡ others = ap (others_in message.keys) (sym whole) ∙ sym so_far.counted in
    λ i. first_or (none i) (Ok (budget_for (asks i) (counted i)))
