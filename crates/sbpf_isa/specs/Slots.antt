-- The slots of a text: opcode, registers, offset and immediate in eight bytes (RFC 9669).
use Rattle.std.specs.Prelude.{ℕ, ◌+◌, ◌*◌, ◌/◌, ◌%◌, List, slice_index}
use Rattle.std.specs.Int.{w16, w32, cast_signed}
use Rattle.sbpf_isa.specs.declared.slot.Slot.{Slot}

-- the byte at a place of a slot
abbrev pub byte : List ℕ → ℕ → ℕ → ℕ
byte text index place = slice_index text (8 * index + place)

-- the slot of an index: the destination is the low nibble of the second byte, the source the high
-- one; numbers have their low byte first
unfoldable pub slot_of : List ℕ → ℕ → Slot
slot_of text index = record {
  opcode = byte text index 0;
  dst = byte text index 1 % 16;
  src = byte text index 1 / 16;
  offset = cast_signed w16 (byte text index 2 + 256 * byte text index 3);
  imm = cast_signed w32 (byte text index 4 + 256 * byte text index 5 + 65536 * byte text index 6
      + 16777216 * byte text index 7);
}
