-- Which transactions of a batch run, and in which order (Solana for the kinds of check; the order,
-- the blocks that are remembered and the unit limits are the project's own).
use Rattle.std.specs.Prelude.{◌≡◌, ℕ, ◌+◌, ◌==◌, Bool, false, not, ◌&&◌, nat_lt, List, [], ◌∷◌, ◌++◌, take, map, filter, fold, sum_by, Option, Some, None, option_map, Result, Ok, Err, is_ok, if◌then◌else◌}
use Rattle.std.specs.List.{list_any, filter_map, enumerate_from}
use Rattle.std.specs.Result.{result_ok}
use Rattle.spec_base.specs.Reading.{◌>>=◌, ok_if}
use Rattle.sol_base.specs.declared.key.Key.{Key}
use Rattle.sol_base.specs.declared.key.Hash32.{Hash32}
use Rattle.sol_base.specs.declared.limits.Limits.{Limits}
use Rattle.sol_base.specs.declared.lock.Lock.{Lock}
use Rattle.sol_base.specs.Keys.{same_hash, same_key}
use Rattle.message_codec.specs.declared.message.Loaded.{Loaded}
use Rattle.message_codec.specs.declared.message.Tx.{Tx}
use Rattle.message_codec.specs.declared.parsed.Parsed.{Parsed}
use Rattle.message_codec.specs.declared.parsed.Parsed.TheVariants.{Good, Bad}
use Rattle.message_codec.specs.Wire.{HasShortLists, IsCountable, message_name}
use Rattle.message_codec.specs.WireReading.{is_wire_memory}
use Rattle.message_codec.specs.Parsing.{IsParsed, parsed_of}
use Rattle.message_codec.specs.Roles.{locks_of, sanitized}
use Rattle.fee_rules.specs.declared.budget.Budget.{Budget}
use Rattle.fee_rules.specs.Budgets.{budget_in}
use Rattle.fee_rules.specs.Fees.{fee_of, priority_of}
use Rattle.status_cache.specs.declared.recent.Mark.{Mark}
use Rattle.status_cache.specs.Recent.{has_hash, knows, processed}
use Rattle.account_store.specs.State.{State}
use Rattle.admission.specs.declared.chosen.Chosen.{Chosen}
use Rattle.admission.specs.declared.chosen.Admitted.{Admitted}
use Rattle.admission.specs.declared.refusal.Refusal.{Refusal}
use Rattle.admission.specs.declared.refusal.Refusal.TheVariants.{Wire as no_wire, Sanitize as not_sane, Lookup as not_loaded, UnknownBlockhash, AlreadyProcessed, RepeatedInBatch, Budget as no_budget, BlockUnits, KeyUnits}
use Rattle.admission.specs.declared.refusal.Refused.{Refused}
use Rattle.admission.specs.Lookups.{load}

-- what the starting snapshot says: the newest blocks, the accounts and the limits
pub record Start : Type 0 where
  pub marks : List Mark
  pub state : State
  pub limits : Limits

abbrev pub start_of : List Mark → State → Limits → Start
start_of marks state limits = record { marks = marks; state = state; limits = limits }

-- ---- the causes of one position

-- the refusal of another call as a cause
abbrev pub as_cause : {X E : Type 0} → (E → Refusal) → Result X E → Result X Refusal
as_cause cause (Ok x) = Ok x
as_cause cause (Err fault) = Err (cause fault)

-- the keys that a transaction loads, or the first of the causes from Sanitize to AlreadyProcessed
unfoldable pub stands : Start → Tx → Hash32 → Result Loaded Refusal
stands start tx name =
    as_cause not_sane (sanitized tx start.limits.keys) >>= λ _.
    as_cause not_loaded (load start.state tx.message) >>= λ loaded.
    ok_if (knows start.marks tx.message.blockhash) UnknownBlockhash loaded >>= λ _.
    ok_if (not (processed start.marks name)) AlreadyProcessed loaded

-- the name of a message, where none of the first five causes holds
abbrev pub standing_name : Start → Parsed → Option Hash32
standing_name start (Bad fault) = None
standing_name start (Good tx name) = if is_ok (stands start tx name) then Some name else None

abbrev pub standing_names : Start → List Parsed → List Hash32
standing_names start wires = filter_map (standing_name start) wires

-- what a transaction is admitted with, once it has a budget
abbrev pub chosen_with : ℕ → Tx → Hash32 → Loaded → Budget → Chosen
chosen_with position tx name loaded budget = record {
  position = position;
  tx = tx;
  loaded = loaded;
  name = name;
  budget = budget;
  fee = fee_of tx.message budget;
  locks = locks_of tx.message loaded;
}

abbrev pub budgeted : ℕ → Tx → Hash32 → Loaded → Result Chosen Refusal
budgeted position tx name loaded =
    as_cause no_budget (budget_in tx.message) >>=
    λ budget. Ok (chosen_with position tx name loaded budget)

-- a transaction with its budget, or why it does not run, told whether its message comes before it
abbrev pub budgeted_once : Bool → ℕ → Tx → Hash32 → Loaded → Result Chosen Refusal
budgeted_once is_before position tx name loaded =
    if is_before then Err RepeatedInBatch else budgeted position tx name loaded

-- the transaction of a position or the first of the seven early causes, told which messages stand
-- before it without one of the first five
unfoldable pub sifted : Start → (Hash32 → Bool) → ℕ → Parsed → Result Chosen Refusal
sifted start is_before position (Bad fault) = Err (no_wire fault)
sifted start is_before position (Good tx name) =
    stands start tx name >>= λ loaded. budgeted_once (is_before name) position tx name loaded

-- the transaction of a position of a batch, or the first of the seven early causes
abbrev pub sifted_in : Start → List Parsed → ℕ × Parsed → Result Chosen Refusal
sifted_in start batch (position, parsed) =
    sifted start (has_hash (standing_names start (take position batch))) position parsed

abbrev pub refusal_in : {X : Type 0} → Result X Refusal → Option Refusal
refusal_in (Ok _) = None
refusal_in (Err cause) = Some cause

-- the early cause of a position
abbrev pub early : Start → List Parsed → ℕ × Parsed → Option Refusal
early start batch entry = refusal_in (sifted_in start batch entry)

-- the transactions without an early cause, by their positions
abbrev pub sifted_out : Start → List Parsed → List Chosen
sifted_out start batch =
    filter_map (λ entry. result_ok (sifted_in start batch entry)) (enumerate_from 0 batch)

-- ---- the line

abbrev pub priority : Chosen → ℕ
priority chosen = priority_of chosen.fee chosen.budget

-- a transaction behind all of its priority or a higher one
abbrev pub with_next : List Chosen → Chosen → List Chosen
with_next [] one = one ∷ []
with_next (other ∷ others) one =
    if nat_lt (priority other) (priority one) then one ∷ other ∷ others
    else other ∷ with_next others one

-- the line: higher priority first, and then lower position first, since positions come ascending
abbrev pub line : List Chosen → List Chosen
line standing = fold with_next [] standing

-- ---- the walk

-- the compute units of transactions together
abbrev pub units_of : List Chosen → ℕ
units_of order = sum_by (λ chosen. chosen.budget.limit) order

-- one of the locks is there to write the key
abbrev pub locks_write : List Lock → Key → Bool
locks_write locks key = list_any (λ lock. lock.write && same_key lock.key key) locks

-- a transaction may write a key
abbrev pub may_write_key : Key → Chosen → Bool
may_write_key key chosen = locks_write chosen.locks key

-- the units of those that may write it
abbrev pub units_on : Key → List Chosen → ℕ
units_on key order = units_of (filter (may_write_key key) order)

-- one of its writable keys would get more units than a key may
abbrev pub passes_key_units : Limits → List Chosen → Chosen → Bool
passes_key_units limits order one =
    list_any (λ lock. lock.write
    && nat_lt limits.key_units (units_on lock.key order + one.budget.limit)) one.locks

-- why a transaction does not run behind those that do
abbrev pub late : Limits → List Chosen → Chosen → Option Refusal
late limits order one =
    if nat_lt limits.block_units (units_of order + one.budget.limit) then Some BlockUnits else
    if passes_key_units limits order one then Some KeyUnits else
    None

-- those that run, in their order, and those that do not, the last first
pub record Walk : Type 0 where
  pub order : List Chosen
  pub refused : List Refused

abbrev pub walk_with : Walk → Chosen → Option Refusal → Walk
walk_with walk one None = record walk { order = walk.order ++ one ∷ [] }
walk_with walk one (Some cause) =
    record walk { refused = record { position = one.position; cause = cause } ∷ walk.refused }

-- the walk: each transaction of a line runs, unless a unit limit refuses it behind those that do
abbrev pub walk : Limits → List Chosen → Walk
walk limits standing =
    fold (λ before one. walk_with before one (late limits before.order one))
    (record { order = []; refused = [] }) standing

-- ---- the answer

-- the cause of a position among those that were refused in the walk
abbrev pub late_cause : List Refused → ℕ → Option Refusal
late_cause [] position = None
late_cause (refused ∷ others) position =
    if refused.position == position then Some refused.cause else late_cause others position

abbrev pub or_else : {X : Type 0} → Option X → Option X → Option X
or_else (Some x) other = Some x
or_else None other = other

-- the late or the early cause of a position
abbrev pub refusal : Start → List Parsed → List Refused → ℕ × Parsed → Option Refusal
refusal start batch refused entry = or_else (late_cause refused entry.0) (early start batch entry)

-- the positions that have one, ascending
abbrev pub refused_in : Start → List Parsed → List Refused → List Refused
refused_in start batch refused =
    filter_map (λ entry. option_map (λ cause. record { position = entry.0; cause = cause })
    (refusal start batch refused entry)) (enumerate_from 0 batch)

abbrev pub answer_of : Start → List Parsed → Walk → Admitted
answer_of start batch walk =
    record { order = walk.order; refused = refused_in start batch walk.refused }

-- what becomes of a batch whose transactions stand in a line by their priorities
unfoldable pub admitted : Start → List (List ℕ) → Admitted
admitted start wires =
    let batch = map parsed_of wires in
    answer_of start batch (walk start.limits (line (sifted_out start batch)))

-- and of one whose transactions stand by their positions
unfoldable pub listed : Start → List (List ℕ) → Admitted
listed start wires =
    let batch = map parsed_of wires in
    answer_of start batch (walk start.limits (sifted_out start batch))

-- each item is what its wire is
abbrev pub AreParsed : List (List ℕ) → List Parsed → Type 0
AreParsed [] [] = Unit {0}
AreParsed [] (_ ∷ _) = ⊥
AreParsed (_ ∷ _) [] = ⊥
AreParsed (wire ∷ wires) (parsed ∷ others) = IsParsed wire parsed × AreParsed wires others

-- ---- what the calls ask and keep

-- what holds of every wire that was read: its lists are short, its name is that of its message, and
-- its fault is of the bytes
abbrev pub IsSound : Parsed → Type 0
IsSound (Good tx name) =
    HasShortLists tx.message × IsCountable tx.signatures × (name ≡ message_name tx.message)
IsSound (Bad fault) = is_wire_memory fault ≡ false

-- it is the name that may be there
abbrev pub is_name : Option Hash32 → Hash32 → Bool
is_name None name = false
is_name (Some other) name = same_hash other name
