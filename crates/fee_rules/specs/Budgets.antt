-- The budget of a message (Solana; that built-in programs have no smaller default, and that a heap
-- and loaded data cost nothing, is the project's own).
use Rattle.std.specs.Prelude.{ℕ, ◌*◌, Bool, false, not, List, take, min, count_by, slice_get, Option, Some, None, unwrap_or, Result, Ok, if◌then◌else◌}
use Rattle.std.specs.Option.{option_map_or}
use Rattle.std.specs.List.{filter_map, enumerate_from}
use Rattle.spec_base.specs.Reading.{first_or}
use Rattle.sol_base.specs.declared.key.Key.{Key}
use Rattle.sol_base.specs.declared.key.TheConstants.{COMPUTE_BUDGET_PROGRAM}
use Rattle.sol_base.specs.Keys.{same_key}
use Rattle.message_codec.specs.declared.message.Instruction.{Instruction}
use Rattle.message_codec.specs.declared.message.Message.{Message}
use Rattle.fee_rules.specs.declared.request.Request.{Request}
use Rattle.fee_rules.specs.declared.request.Asked.{Asked}
use Rattle.fee_rules.specs.declared.request.TheConstants.{MIN_HEAP_FRAME}
use Rattle.fee_rules.specs.declared.budget.TheConstants.{MAX_LOADED_DATA, MAX_UNITS, UNITS_PER_INSTRUCTION}
use Rattle.fee_rules.specs.declared.budget.Budget.{Budget}
use Rattle.fee_rules.specs.declared.budget.BudgetFault.{BudgetFault}
use Rattle.fee_rules.specs.declared.budget.BudgetFault.TheVariants.{BadBudget, RepeatedBudget}
use Rattle.fee_rules.specs.Requests.{asked_of, has_asked, request_of}

-- the instruction calls the compute budget program
abbrev pub is_budget : List Key → Instruction → Bool
is_budget keys instruction =
    option_map_or (λ key. same_key key COMPUTE_BUDGET_PROGRAM) (slice_get keys instruction.program)
    false

-- its request, if it has one
abbrev pub request_in : List Key → Instruction → Option Request
request_in keys instruction =
    if is_budget keys instruction then request_of instruction.input else None

-- all requests, in order
abbrev pub requests_in : List Key → List Instruction → List Request
requests_in keys instructions = filter_map (request_in keys) instructions

-- what is wrong with a request: it is none, or one of its kind stands before it
abbrev pub fault_of : Asked → Option Request → ℕ → Option BudgetFault
fault_of before None index = Some (BadBudget index)
fault_of before (Some request) index =
    if has_asked before request then Some (RepeatedBudget index) else None

-- what the instructions before an index ask for
abbrev pub asked_before : List Key → List Instruction → ℕ → Asked
asked_before keys instructions index = asked_of (requests_in keys (take index instructions))

-- what is wrong with the instruction at an index
abbrev pub fault_at : List Key → List Instruction → ℕ × Instruction → Option BudgetFault
fault_at keys instructions at =
    if is_budget keys at.1
    then fault_of (asked_before keys instructions at.0) (request_of at.1.input) at.0
    else None

-- all that is wrong, in order
abbrev pub faults_in : List Key → List Instruction → List BudgetFault
faults_in keys instructions =
    filter_map (fault_at keys instructions) (enumerate_from 0 instructions)

-- the budget for what is asked, with so many instructions that are no requests
abbrev pub budget_for : Asked → ℕ → Budget
budget_for asked others = record {
  limit = min (unwrap_or asked.limit (UNITS_PER_INSTRUCTION * others)) MAX_UNITS;
  price = unwrap_or asked.price 0;
  heap = unwrap_or asked.heap MIN_HEAP_FRAME;
  loaded = min (unwrap_or asked.loaded MAX_LOADED_DATA) MAX_LOADED_DATA;
}

-- the instructions that are no requests
abbrev pub others_in : List Key → List Instruction → ℕ
others_in keys instructions =
    count_by (λ instruction. not (is_budget keys instruction)) instructions

-- the budget, where nothing is wrong
abbrev pub asked_budget : List Key → List Instruction → Budget
asked_budget keys instructions =
    budget_for (asked_of (requests_in keys instructions)) (others_in keys instructions)

-- the budget, or the first that is wrong
unfoldable pub budget_in : Message → Result Budget BudgetFault
budget_in message =
    first_or (faults_in message.keys message.instructions)
    (Ok (asked_budget message.keys message.instructions))
