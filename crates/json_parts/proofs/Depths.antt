-- How deep lists and transactions nest.
use Rattle.std.proofs.Common.{◌≤◌, ℕ, List, [], ◌∷◌, map, Result, Ok, Err, lit≤, arith}
use Rattle.serde_json.specs.Data.{Data, depth, items_depth}
use Rattle.serde_json.specs.View.{items_of}
use Rattle.message_codec.specs.declared.fault.WireFault.{WireFault}
use Rattle.message_codec.specs.declared.message.Instruction.{Instruction}
use Rattle.message_codec.specs.declared.message.Lookup.{Lookup}
use Rattle.message_codec.specs.declared.message.MessageKind.{MessageKind}
use Rattle.message_codec.specs.declared.message.MessageKind.TheVariants.{Legacy, Zero}
use Rattle.message_codec.specs.declared.message.Tx.{Tx}
use Rattle.message_codec.specs.WireReading.{wire_of}
use Rattle.json_parts.specs.Written.{number_json}
use Rattle.json_parts.specs.TransactionJson.{key_json, signature_json, instruction_json, lookup_json, version_json, tx_json, json_by_wire, transaction_json}

pub list_depth : {X : Type 0} (json : X → Data) (most : ℕ) → ((x : X) → depth (json x) ≤ most) → (xs : List X) → items_depth (items_of (map json xs)) ≤ most
list_depth json most each [] = omega arith
list_depth json most each (x ∷ xs) = let first = each x in let rest = list_depth json most each xs in omega arith

numbers_depth : (ns : List ℕ) → items_depth (items_of (map number_json ns)) ≤ 0
numbers_depth ns = list_depth number_json 0 (λ n. lit≤ tt) ns

instruction_depth : (instruction : Instruction) → depth (instruction_json instruction) ≤ 8
instruction_depth instruction = let accounts = numbers_depth instruction.accounts in omega arith

lookup_depth : (lookup : Lookup) → depth (lookup_json lookup) ≤ 8
lookup_depth lookup =
    let readonly = numbers_depth lookup.readonly in
    let writable = numbers_depth lookup.writable in
    omega arith

version_depth : (kind : MessageKind) → depth (version_json kind) ≤ 0
version_depth Legacy = lit≤ tt
version_depth Zero = lit≤ tt

tx_depth : (tx : Tx) → depth (tx_json tx) ≤ 16
tx_depth tx =
    let instructions = list_depth instruction_json 8 instruction_depth tx.message.instructions in
    let keys = list_depth key_json 0 (λ key. lit≤ tt) tx.message.keys in
    let lookups = list_depth lookup_json 8 lookup_depth tx.message.lookups in
    let signatures = list_depth signature_json 0 (λ signature. lit≤ tt) tx.signatures in
    let version = version_depth tx.message.kind in
    omega arith

pub transaction_depth : (bytes : List ℕ) → depth (transaction_json bytes) ≤ 16
transaction_depth bytes = by_wire (wire_of bytes)
  where
    by_wire : (r : Result Tx WireFault) → depth (json_by_wire bytes r) ≤ 16
    by_wire (Ok tx) = tx_depth tx
    by_wire (Err fault) = lit≤ tt
