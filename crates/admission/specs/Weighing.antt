-- What the state before a block says of each wire alone, and what the wires before it say then.
use Rattle.std.specs.Prelude.{⊤, ◌≡◌, ℕ, Bool, false, List, take, map, Option, Some, None, Result, Ok, Err, if◌then◌else◌}
use Rattle.std.specs.List.{enumerate_from, filter_map}
use Rattle.std.specs.BTreeSet.{BTreeSet}
use Rattle.std.specs.Result.{result_ok}
use Rattle.sol_base.specs.declared.key.Hash32.{Hash32}
use Rattle.message_codec.specs.declared.message.Loaded.{Loaded}
use Rattle.message_codec.specs.declared.message.Tx.{Tx}
use Rattle.message_codec.specs.declared.parsed.Parsed.{Parsed}
use Rattle.message_codec.specs.declared.parsed.Parsed.TheVariants.{Good, Bad}
use Rattle.message_codec.specs.Parsing.{parsed_of}
use Rattle.fee_rules.specs.declared.budget.Budget.{Budget}
use Rattle.fee_rules.specs.declared.budget.BudgetFault.{BudgetFault}
use Rattle.fee_rules.specs.Budgets.{budget_in}
use Rattle.status_cache.specs.declared.recent.Mark.{Mark}
use Rattle.status_cache.specs.Recent.{has_hash, has_name, processed}
use Rattle.admission.specs.declared.chosen.Chosen.{Chosen}
use Rattle.admission.specs.declared.refusal.Refusal.{Refusal}
use Rattle.admission.specs.declared.refusal.Refusal.TheVariants.{Wire as no_wire, RepeatedInBatch, Budget as no_budget}
use Rattle.admission.specs.declared.weighing.Weighed.{Weighed}
use Rattle.admission.specs.declared.weighing.Weighed.TheVariants.{Refused, NoBudget, Ready}
use Rattle.admission.specs.Admission.{AreParsed, Start, chosen_with, refusal_in, stands}

-- ---- each wire alone

-- a transaction with the keys that it loads, told its budget
abbrev pub with_budget : ℕ → Tx → Hash32 → Loaded → Result Budget BudgetFault → Weighed
with_budget position tx name loaded (Ok budget) = Ready (chosen_with position tx name loaded budget)
with_budget position tx name loaded (Err fault) = NoBudget name fault

-- a transaction, told the keys that it loads
abbrev pub with_loaded : ℕ → Tx → Hash32 → Result Loaded Refusal → Weighed
with_loaded position tx name (Ok loaded) =
    with_budget position tx name loaded (budget_in tx.message)
with_loaded position tx name (Err cause) = Refused cause

-- the wire at a position
unfoldable pub weighed : Start → ℕ → Parsed → Weighed
weighed start position (Bad fault) = Refused (no_wire fault)
weighed start position (Good tx name) = with_loaded position tx name (stands start tx name)

-- wires that stand one after the other, the first at a position
abbrev pub weighed_from : Start → ℕ → List Parsed → List Weighed
weighed_from start first wires =
    map (λ entry. weighed start entry.0 entry.1) (enumerate_from first wires)

-- they are the wires of a batch, which are bytes that were read, as each weighs alone
pub record AreWeighed (start : Start) (wires : List (List ℕ)) (batch : List Weighed) : Type 0 where
  pub read : AreParsed wires (map parsed_of wires)
  pub alone : batch ≡ weighed_from start 0 (map parsed_of wires)

-- ---- which messages were processed, told for all wires at once

-- the name of the message of a wire, if it has one
abbrev pub name_in : Parsed → Option Hash32
name_in (Good tx name) = Some name
name_in (Bad fault) = None

-- its name is among those that are noted
abbrev pub is_noted : BTreeSet Hash32 → Parsed → Bool
is_noted noted (Good tx name) = has_name noted name
is_noted noted (Bad fault) = false

-- it is told whether a block has processed the message of a wire
abbrev pub IsTold : List Mark → Parsed → Bool → Type 0
IsTold marks (Good tx name) was_processed = was_processed ≡ processed marks name
IsTold marks (Bad fault) was_processed = ⊤

-- ---- what the wires before it say

-- the name of a message that none of the first five causes refuses
abbrev pub name_of : Weighed → Option Hash32
name_of (Refused cause) = None
name_of (NoBudget name fault) = Some name
name_of (Ready chosen) = Some chosen.name

abbrev pub names_of : List Weighed → List Hash32
names_of batch = filter_map name_of batch

-- there is a name, and it is among others
abbrev pub is_among : (Hash32 → Bool) → Option Hash32 → Bool
is_among has None = false
is_among has (Some name) = has name

-- the message of a position stands before it
abbrev pub is_repeated : List Weighed → ℕ × Weighed → Bool
is_repeated batch (position, one) = is_among (has_hash (names_of (take position batch))) (name_of one)

-- the transaction or its first early cause, told whether its message stands before it
abbrev pub sifted_when : Bool → Weighed → Result Chosen Refusal
sifted_when repeated (Refused cause) = Err cause
sifted_when repeated (NoBudget name fault) =
    if repeated then Err RepeatedInBatch else Err (no_budget fault)
sifted_when repeated (Ready chosen) = if repeated then Err RepeatedInBatch else Ok chosen

-- the transaction of an entry of a batch, or its first early cause
abbrev pub sifted_among : List Weighed → ℕ × Weighed → Result Chosen Refusal
sifted_among batch entry = sifted_when (is_repeated batch entry) entry.1

-- the transactions without an early cause, by their positions
abbrev pub standing_among : List Weighed → List Chosen
standing_among batch =
    filter_map (λ entry. result_ok (sifted_among batch entry)) (enumerate_from 0 batch)

-- the early cause of each position that has one
abbrev pub causes_among : List Weighed → List (Option Refusal)
causes_among batch = map (λ entry. refusal_in (sifted_among batch entry)) (enumerate_from 0 batch)
