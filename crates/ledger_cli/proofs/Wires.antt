-- The wires of a batch that was read from bytes, and what they are parsed to.
use Rattle.std.proofs.Common.{◌≡◌, ℕ, List, [], ◌∷◌, ◌++◌, length, Result, Ok, Err, refl}
use Rattle.std.specs.Prelude.{map, codes}
use Rattle.std.specs.Int.{w16, w32, w64, to_le_bytes}
use Rattle.std.specs.List.{flat_map, AllByRecursion}
use Rattle.spec_base.specs.Bytes.{IsBytes, sized_bytes}
use Rattle.spec_base.proofs.Binding.{after_bytes, before_bytes}
use Rattle.sol_base.specs.Keys.{key_bytes}
use Rattle.message_codec.specs.declared.message.Tx.{Tx}
use Rattle.message_codec.specs.declared.fault.WireFault.{WireFault}
use Rattle.message_codec.specs.WireReading.{wire_of}
use Rattle.message_codec.specs.Parsing.{parsed_by, parsed_of, IsParsed}
use Rattle.message_codec.proofs.WireLaws.{wire_takes}
use Rattle.message_codec.proofs.Refusals.{refused_by_bytes}
use Rattle.snapshot_codec.specs.declared.batch.Batch.{Batch}
use Rattle.snapshot_codec.specs.Batch.{IsBatch}
use Rattle.admission.specs.Admission.{AreParsed}

is_parsed : (wire : List ℕ) → IsBytes wire → IsParsed wire (parsed_of wire)
is_parsed wire bytes = by_case (wire_of wire) refl
  where
    by_case : (read : Result Tx WireFault) → wire_of wire ≡ read → IsParsed wire (parsed_by read)
    by_case (Ok tx) e = (wire_takes wire tx bytes e, refl)
    by_case (Err fault) e = (e, refused_by_bytes wire fault e)

-- each wire is parsed to what it is
pub are_parsed : (wires : List (List ℕ)) → AllByRecursion IsBytes wires → AreParsed wires (map parsed_of wires)
are_parsed [] all = tt
are_parsed (wire ∷ wires) all = (is_parsed wire all.0, are_parsed wires all.1)

each_is_bytes : (wires : List (List ℕ)) → IsBytes (flat_map sized_bytes wires) → AllByRecursion IsBytes wires
each_is_bytes [] are = tt
each_is_bytes (wire ∷ wires) are =
    let own = before_bytes (sized_bytes wire) (flat_map sized_bytes wires) are in
    let rest = after_bytes _ (sized_bytes wire) (flat_map sized_bytes wires) are refl in
    (after_bytes _ (to_le_bytes w16 (length wire)) wire own refl, each_is_bytes wires rest)

-- the wires of a batch that is read are bytes
pub wires_are_bytes : (before : ℕ) (bytes : List ℕ) (batch : Batch) → IsBytes bytes → IsBatch before bytes batch → AllByRecursion IsBytes batch.wires
wires_are_bytes before bytes batch are is =
    let head = codes "SOLBATC1" ++ to_le_bytes w64 batch.slot ++ key_bytes batch.collector ++ to_le_bytes w32 (length batch.wires) in
    each_is_bytes batch.wires (after_bytes bytes head (flat_map sized_bytes batch.wires) are is.spelled)
