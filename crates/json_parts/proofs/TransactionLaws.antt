-- Transactions in JSON: what is written stands for the bytes that it was made of.
use Rattle.std.proofs.Common.{◌≡◌, ◌≤◌, ◌<◌, ◌-◌, ◌^◌, ℕ, List, [], ◌∷◌, ◌++◌, length, Result, Ok, Err, refl, sym, ap, subst, ◌∙◌, append_assoc, arith, lit≤}
use Rattle.std.specs.Prelude.{codes}
use Rattle.std.specs.List.{flat_map, AllByRecursion}
use Rattle.std.proofs.lemmas.List.Elements.{recursion_from_All}
use Rattle.spec_base.specs.Bytes.{IsBytes, max_count}
use Rattle.spec_base.proofs.Binding.{before_bytes, after_bytes}
use Rattle.sol_base.specs.declared.key.Key.{Key}
use Rattle.sol_base.specs.Keys.{IsKey, key_bytes}
use Rattle.message_codec.specs.declared.fault.WireFault.{WireFault}
use Rattle.message_codec.specs.declared.message.Signature.{Signature}
use Rattle.message_codec.specs.declared.message.Header.{Header}
use Rattle.message_codec.specs.declared.message.Instruction.{Instruction}
use Rattle.message_codec.specs.declared.message.MessageKind.{MessageKind}
use Rattle.message_codec.specs.declared.message.MessageKind.TheVariants.{Legacy, Zero}
use Rattle.message_codec.specs.declared.message.Lookup.{Lookup}
use Rattle.message_codec.specs.declared.message.Tx.{Tx}
use Rattle.message_codec.specs.Compact.{compact}
use Rattle.message_codec.specs.Wire.{signature_bytes, header_bytes, instruction_bytes, lookup_bytes, kind_bytes, lookups_bytes, blob_bytes, message_bytes, tx_bytes, IsCountable, AllowsLookups, Wire}
use Rattle.message_codec.specs.WireReading.{wire_of}
use Rattle.message_codec.proofs.WireLaws.{wire_takes}
use Rattle.serde_json.specs.Data.{object, member, no_members}
use Rattle.json_parts.specs.Written.{hex_json, number_json, list_json}
use Rattle.json_parts.specs.Parts.{number_in, digits_in, data_in, known_in, list_in, items_in}
use Rattle.json_parts.specs.TransactionJson.{key_json, signature_json, header_json, instruction_json, lookup_json, version_json, tx_json, json_by_wire, transaction_json, byte_in, key_in, signature_in, header_in, instruction_in, lookup_in, kind_in, most_lookups, lookups_part, message_in, tx_in, whole_tx_in, wire_in, transaction_in}
use Rattle.json_parts.proofs.Again.{number_again, digits_again, data_again, member_again, items_again, list_again}

-- ---- lists of bytes

abbrev alone : ℕ → List ℕ
alone n = n ∷ []

each_alone : (ns : List ℕ) → flat_map alone ns ≡ ns
each_alone [] = refl
each_alone (n ∷ ns) = ap (λ (l : List ℕ). n ∷ l) (each_alone ns)

anything : (ns : List ℕ) → AllByRecursion (λ _. Unit {0}) ns
anything [] = tt
anything (n ∷ ns) = (tt, anything ns)

byte_again : (n : ℕ) → Unit {0} → IsBytes (alone n) → byte_in (number_json n) ≡ Ok (alone n)
unfolding byte_in
byte_again n fits are = let below : n < 256 = are 0 in rw (number_again 0 (2 ^ 8 - 1) n (omega arith) (omega arith)) refl

bytes_again : (ns : List ℕ) → length ns ≤ max_count → IsBytes ns → list_in max_count byte_in (list_json number_json ns) ≡ Ok (length ns, ns)
bytes_again ns few are =
    let same = each_alone ns in
    let read = items_again byte_in number_json alone (λ _. Unit {0}) byte_again 0 ns (anything ns) (subst IsBytes (sym same) are) in
    list_again max_count byte_in number_json ns ns few (read ∙ ap Ok same)

-- ---- the parts of a transaction

key_again : (key : Key) → IsKey key → IsBytes (key_bytes key) → key_in (key_json key) ≡ Ok (key_bytes key)
key_again key long are = digits_again 32 key.0 long are

signature_again : (signature : Signature) → length signature.0 ≡ 64 → IsBytes (signature_bytes signature) → signature_in (signature_json signature) ≡ Ok (signature_bytes signature)
signature_again signature long are = digits_again 64 signature.0 long are

header_again : (header : Header) → header.required < 256 → header.readonly_signed < 256 → header.readonly_unsigned < 256 → header_in (header_json header) ≡ Ok (header_bytes header)
unfolding header_in known_in
header_again header required signed unsigned =
    let d = header_json header in
    rw (
      member_again (codes "required") (number_in 0 (2 ^ 8 - 1)) d (number_json header.required) header.required refl (number_again 0 (2 ^ 8 - 1) header.required (omega arith) (omega arith)),
      member_again (codes "readonly_signed") (number_in 0 (2 ^ 8 - 1)) d (number_json header.readonly_signed)
          header.readonly_signed refl
          (number_again 0 (2 ^ 8 - 1) header.readonly_signed (omega arith) (omega arith)),
      member_again (codes "readonly_unsigned") (number_in 0 (2 ^ 8 - 1)) d
          (number_json header.readonly_unsigned) header.readonly_unsigned refl
          (number_again 0 (2 ^ 8 - 1) header.readonly_unsigned (omega arith) (omega arith)),
    ) refl

record InstructionFits (instruction : Instruction) : Type 0 where
  program : instruction.program < 256
  accounts : IsCountable instruction.accounts
  input : IsCountable instruction.input

instruction_again : (instruction : Instruction) → InstructionFits instruction
    → IsBytes (instruction_bytes instruction)
    → instruction_in (instruction_json instruction) ≡ Ok (instruction_bytes instruction)
unfolding instruction_in known_in
instruction_again instruction fits are =
    let d = instruction_json instruction in
    let program = instruction.program in
    let accounts = instruction.accounts in
    let input = instruction.input in
    let head = program ∷ blob_bytes accounts in
    let accounts_are = after_bytes _ (program ∷ compact (length accounts)) accounts (before_bytes head (blob_bytes input) are) refl in
    let input_are = after_bytes _ (compact (length input)) input (after_bytes _ head (blob_bytes input) are refl) refl in
    rw (
      member_again (codes "program") (number_in 0 (2 ^ 8 - 1)) d (number_json program) program refl (number_again 0 (2 ^ 8 - 1) program (omega arith) (let t = fits.program in omega arith)),
      member_again (codes "accounts") (list_in max_count byte_in) d (list_json number_json accounts) (length accounts, accounts) refl (bytes_again accounts fits.accounts accounts_are),
      member_again (codes "data") (data_in max_count) d (hex_json input) input refl (data_again max_count input fits.input input_are),
    ) (ap Ok (append_assoc head (compact (length input)) input))

record LookupFits (lookup : Lookup) : Type 0 where
  table : IsKey lookup.table
  writable : IsCountable lookup.writable
  readonly : IsCountable lookup.readonly

lookup_again : (lookup : Lookup) → LookupFits lookup → IsBytes (lookup_bytes lookup) → lookup_in (lookup_json lookup) ≡ Ok (lookup_bytes lookup)
unfolding lookup_in known_in
lookup_again lookup fits are =
    let d = lookup_json lookup in
    let table = lookup.table.0 in
    let writable = lookup.writable in
    let readonly = lookup.readonly in
    let head = table ++ blob_bytes writable in
    let head_are = before_bytes head (blob_bytes readonly) are in
    let table_are = before_bytes table (blob_bytes writable) head_are in
    let writable_are = after_bytes _ (compact (length writable)) writable (after_bytes _ table (blob_bytes writable) head_are refl) refl in
    let readonly_are = after_bytes _ (compact (length readonly)) readonly (after_bytes _ head (blob_bytes readonly) are refl) refl in
    let joined : table ++ compact (length writable) ++ writable ++ compact (length readonly) ++ readonly ≡ lookup_bytes lookup =
    append_assoc (table ++ compact (length writable) ++ writable) (compact (length readonly)) readonly
    ∙ ap (λ (l : List ℕ). l ++ blob_bytes readonly)
    (append_assoc table (compact (length writable)) writable) in
    rw (
      member_again (codes "table") (digits_in 32) d (hex_json table) table refl (digits_again 32 table fits.table table_are),
      member_again (codes "writable") (list_in max_count byte_in) d (list_json number_json writable) (length writable, writable) refl (bytes_again writable fits.writable writable_are),
      member_again (codes "readonly") (list_in max_count byte_in) d (list_json number_json readonly) (length readonly, readonly) refl (bytes_again readonly fits.readonly readonly_are),
    ) (ap Ok joined)

kind_again : (kind : MessageKind) → kind_in (version_json kind) ≡ Ok kind
unfolding kind_in
kind_again Legacy = refl
kind_again Zero = refl

-- what the lookups of a message are read as
record LookupsRead (kind : MessageKind) (lookups : List Lookup) : Type 0 where
  read : ℕ × List ℕ
  is : list_in (most_lookups kind) lookup_in (list_json lookup_json lookups) ≡ Ok read
  part : lookups_part kind read ≡ lookups_bytes kind lookups

lookups_again : (kind : MessageKind) (lookups : List Lookup) → AllowsLookups kind lookups → IsCountable lookups
    → AllByRecursion LookupFits lookups → IsBytes (lookups_bytes kind lookups) → LookupsRead kind lookups
unfolding list_in items_in
lookups_again Legacy lookups none few fits are = record {
  read = (0, []);
  is = subst (λ (l : List Lookup). list_in 0 lookup_in (list_json lookup_json l) ≡ Ok (0, [])) (sym none) (list_again 0 lookup_in lookup_json [] [] (lit≤ tt) refl);
  part = refl;
}
lookups_again Zero lookups allowed few fits are =
    let all = flat_map lookup_bytes lookups in
    record {
      read = (length lookups, all);
      is = list_again max_count lookup_in lookup_json lookups all few
          (items_again lookup_in lookup_json lookup_bytes LookupFits lookup_again 0 lookups fits
          (after_bytes _ (compact (length lookups)) all are refl));
      part = refl;
    }

message_again : (tx : Tx) (bytes : List ℕ) → Wire bytes tx → IsBytes (message_bytes tx.message) → message_in (tx_json tx) ≡ Ok (message_bytes tx.message)
unfolding message_in
message_again tx bytes is are =
    let message = tx.message in
    let d = tx_json tx in
    let has = is.widths in
    let lists = is.lists in
    let opening = kind_bytes message.kind ++ header_bytes message.header in
    let keys = flat_map key_bytes message.keys in
    let key_count = compact (length message.keys) in
    let to_keys = opening ++ (key_count ++ keys) in
    let to_hash = to_keys ++ message.blockhash.0 in
    let all = flat_map instruction_bytes message.instructions in
    let count = compact (length message.instructions) in
    let to_instructions = to_hash ++ (count ++ all) in
    let lookups = lookups_bytes message.kind message.lookups in
    let a4 = before_bytes to_instructions lookups are in
    let a3 = before_bytes to_hash (count ++ all) a4 in
    let a2 = before_bytes to_keys message.blockhash.0 a3 in
    let keys_are = after_bytes _ key_count keys (after_bytes _ opening (key_count ++ keys) a2 refl) refl in
    let hash_are = after_bytes _ to_keys message.blockhash.0 a3 refl in
    let all_are = after_bytes _ count all (after_bytes _ to_hash (count ++ all) a4 refl) refl in
    let instructions_fit = recursion_from_All InstructionFits message.instructions
    (λ k e lt. record {
      program = has.programs k e lt;
      accounts = lists.accounts k e lt;
      input =
          lists.inputs k e lt;
    }) in
    let lookups_fit = recursion_from_All LookupFits message.lookups (λ k e lt. record { table = has.tables k e lt; writable = lists.writable k e lt; readonly = lists.readonly k e lt }) in
    let looked = lookups_again message.kind message.lookups is.allows lists.lookups lookups_fit (after_bytes _ to_instructions lookups are refl) in
    rw (
      member_again (codes "version") kind_in d (version_json message.kind) message.kind refl (kind_again message.kind),
      member_again (codes "header") header_in d (header_json message.header) (header_bytes message.header) refl (header_again message.header has.required has.readonly_signed has.readonly_unsigned),
      member_again (codes "keys") (list_in max_count key_in) d (list_json key_json message.keys) (length message.keys, keys) refl
          (list_again max_count key_in key_json message.keys keys lists.keys
          (items_again key_in key_json key_bytes IsKey key_again 0 message.keys
          (recursion_from_All IsKey message.keys has.keys) keys_are)),
      member_again (codes "recent_blockhash") (digits_in 32) d (hex_json message.blockhash.0) message.blockhash.0 refl (digits_again 32 message.blockhash.0 has.blockhash hash_are),
      member_again (codes "instructions") (list_in max_count instruction_in) d (list_json instruction_json message.instructions) (length message.instructions, all) refl
          (list_again max_count instruction_in instruction_json message.instructions all lists.instructions
          (items_again instruction_in instruction_json instruction_bytes InstructionFits instruction_again 0
          message.instructions instructions_fit all_are)),
      member_again (codes "lookups") (list_in (most_lookups message.kind) lookup_in) d (list_json lookup_json message.lookups) looked.read refl looked.is,
      looked.part,
      append_assoc opening key_count keys,
      append_assoc to_hash count all,
    ) refl

tx_again : (tx : Tx) (bytes : List ℕ) → Wire bytes tx → IsBytes (tx_bytes tx) → tx_in (tx_json tx) ≡ Ok (tx_bytes tx)
unfolding tx_in known_in
tx_again tx bytes is are =
    let d = tx_json tx in
    let all = flat_map signature_bytes tx.signatures in
    let count = compact (length tx.signatures) in
    let signed_are = before_bytes (count ++ all) (message_bytes tx.message) are in
    let message_are = after_bytes _ (count ++ all) (message_bytes tx.message) are refl in
    rw (
      member_again (codes "signatures") (list_in max_count signature_in) d (list_json signature_json tx.signatures) (length tx.signatures, all) refl
          (list_again max_count signature_in signature_json tx.signatures all is.signatures
          (items_again signature_in signature_json signature_bytes (λ signature. length signature.0 ≡ 64)
          signature_again 0 tx.signatures
          (recursion_from_All (λ (signature : Signature). length signature.0 ≡ 64) tx.signatures
          is.widths.signatures) (after_bytes _ count all signed_are refl))),
      message_again tx bytes is message_are,
    ) refl

-- what a transaction is written as stands for its bytes
pub transaction_again : (bytes : List ℕ) → length bytes ≤ max_count → IsBytes bytes → transaction_in (transaction_json bytes) ≡ Ok bytes
unfolding transaction_in whole_tx_in wire_in known_in
transaction_again bytes short are = by_wire (wire_of bytes) refl
  where
    tx_read : (tx : Tx) → wire_of bytes ≡ Ok tx → transaction_in (tx_json tx) ≡ Ok bytes
    tx_read tx read =
        let is = wire_takes bytes tx are read in
        let spelled = tx_again tx bytes is (subst IsBytes is.spelled are) ∙ ap Ok (sym is.spelled) in
        rw (spelled, read) refl

    wire_read : transaction_in (object (member (codes "wire") (hex_json bytes) no_members)) ≡ Ok bytes
    wire_read = member_again (codes "wire") (data_in max_count) (object (member (codes "wire") (hex_json bytes) no_members)) (hex_json bytes) bytes refl (data_again max_count bytes short are)

    by_wire : (r : Result Tx WireFault) → wire_of bytes ≡ r → transaction_in (json_by_wire bytes r) ≡ Ok bytes
    by_wire (Ok tx) read = tx_read tx read
    by_wire (Err fault) read = wire_read
