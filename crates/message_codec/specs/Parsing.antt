-- What the bytes of a wire are.
use Rattle.std.specs.Prelude.{◌≡◌, ℕ, List, Result, Ok, Err, false}
use Rattle.message_codec.specs.declared.fault.WireFault.{WireFault}
use Rattle.message_codec.specs.declared.message.Tx.{Tx}
use Rattle.message_codec.specs.declared.parsed.Parsed.{Parsed}
use Rattle.message_codec.specs.declared.parsed.Parsed.TheVariants.{Good, Bad}
use Rattle.message_codec.specs.Wire.{Wire, message_name}
use Rattle.message_codec.specs.WireReading.{is_wire_memory, wire_of}

-- the transaction with the name of its message, or the first refusal
abbrev pub parsed_by : Result Tx WireFault → Parsed
parsed_by (Ok tx) = Good tx (message_name tx.message)
parsed_by (Err fault) = Bad fault

abbrev pub parsed_of : List ℕ → Parsed
parsed_of bytes = parsed_by (wire_of bytes)

-- it is so, and a refusal is of the bytes
abbrev pub IsParsed : List ℕ → Parsed → Type 0
IsParsed bytes (Good tx name) = Wire bytes tx × (name ≡ message_name tx.message)
IsParsed bytes (Bad fault) = (wire_of bytes ≡ Err fault) × (is_wire_memory fault ≡ false)
