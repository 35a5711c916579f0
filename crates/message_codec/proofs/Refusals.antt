-- No bytes make reading return out of memory.
use Rattle.std.proofs.Common.{◌≡◌, ℕ, zero, suc, List, [], ◌∷◌, ◌++◌, length, Result, Ok, Err, Bool, true, false, cond, ◌||◌, refl, subst, ◌+◌, ◌*◌, ◌-◌, nat_lt}
use Rattle.std.specs.Prelude.{nat_eq}
use Rattle.spec_base.specs.Reading.{◌>>=◌, place, field_at, byte_at, read_as, many_after}
use Rattle.format_fields.specs.Fields.{key_at, hash_at}
use Rattle.message_codec.specs.declared.fault.WireFault.{WireFault}
use Rattle.message_codec.specs.declared.fault.WireFault.TheVariants.{Truncated}
use Rattle.message_codec.specs.declared.message.MessageKind.{MessageKind}
use Rattle.message_codec.specs.declared.message.MessageKind.TheVariants.{Legacy, Zero}
use Rattle.message_codec.specs.declared.message.Tx.{Tx}
use Rattle.message_codec.specs.Wire.{max_wire_len}
use Rattle.message_codec.specs.WireReading.{Read, is_wire_memory, third_at, second_at, compact_at, array_at, blob_at, signature_at, header_at, instruction_at, lookup_at, kind_at, lookups_at, message_at, tx_at, wire_of}

-- the answer is not out of memory
abbrev IsPlain : {X : Type 0} → Result X WireFault → Type 0
IsPlain (Ok x) = Unit {0}
IsPlain (Err fault) = is_wire_memory fault ≡ false

either : {X : Type 0} (b : Bool) (r s : Result X WireFault) → IsPlain r → IsPlain s → IsPlain (cond b r s)
either true r s p q = p
either false r s p q = q

onward : {X Y : Type 0} (r : Result X WireFault) (f : X → Result Y WireFault) → IsPlain r → ((x : X) → IsPlain (f x)) → IsPlain (r >>= f)
onward (Ok x) f p later = later x
onward (Err fault) f p later = p

field_plain : (total count : ℕ) (bytes : List ℕ) → IsPlain (field_at Truncated total count bytes)
unfolding field_at
field_plain total count bytes = either (nat_lt (length bytes) count) _ _ refl tt

byte_plain : (total : ℕ) (bytes : List ℕ) → IsPlain (byte_at Truncated total bytes)
unfolding byte_at
byte_plain total bytes = onward (field_at Truncated total 1 bytes) _ (field_plain total 1 bytes) (λ field. tt)

as_plain : {X Y : Type 0} (shape : X → Y) (one : List ℕ → Read X) (bytes : List ℕ) → IsPlain (one bytes) → IsPlain (read_as shape one bytes)
unfolding read_as
as_plain shape one bytes plain = onward (one bytes) _ plain (λ read. tt)

many_plain : {X : Type 0} (one : List ℕ → Read X) → ((bytes : List ℕ) → IsPlain (one bytes))
    → (before : List X) (count : ℕ) (bytes : List ℕ)
    → IsPlain (many_after (λ _ rest. one rest) before count bytes)
unfolding many_after
many_plain one plain before zero bytes = tt
many_plain one plain before (suc count) bytes = onward (one bytes) _ (plain bytes) (λ item. many_plain one plain (before ++ item.0 ∷ []) count item.1)

third_plain : (at low : ℕ) (bytes : List ℕ) → IsPlain (third_at at low bytes)
third_plain at low [] = refl
third_plain at low (c ∷ rest) = either (nat_eq c 0 || nat_lt 3 c) _ _ refl tt

second_plain : (at low : ℕ) (bytes : List ℕ) → IsPlain (second_at at low bytes)
second_plain at low [] = refl
second_plain at low (b ∷ rest) = either (nat_lt b 128) _ _ (either (nat_eq b 0) _ _ refl tt) (third_plain at (low + 128 * (b - 128)) rest)

length_plain : (total : ℕ) (bytes : List ℕ) → IsPlain (compact_at total bytes)
unfolding compact_at
length_plain total [] = refl
length_plain total (a ∷ rest) = either (nat_lt a 128) _ _ tt (second_plain (place total (a ∷ rest)) (a - 128) rest)

array_plain : {X : Type 0} (one : ℕ → List ℕ → Read X) (total : ℕ) → ((bytes : List ℕ) → IsPlain (one total bytes)) → (bytes : List ℕ) → IsPlain (array_at one total bytes)
unfolding array_at
array_plain one total plain bytes = onward (compact_at total bytes) _ (length_plain total bytes) (λ count. many_plain (one total) plain [] count.0 count.1)

blob_plain : (total : ℕ) (bytes : List ℕ) → IsPlain (blob_at total bytes)
unfolding blob_at
blob_plain total bytes = onward (compact_at total bytes) _ (length_plain total bytes) (λ count. field_plain total count.0 count.1)

header_plain : (total : ℕ) (bytes : List ℕ) → IsPlain (header_at total bytes)
unfolding header_at
header_plain total bytes = onward (field_at Truncated total 3 bytes) _ (field_plain total 3 bytes) (λ field. tt)

key_plain : (total : ℕ) (bytes : List ℕ) → IsPlain (key_at Truncated total bytes)
key_plain total bytes = as_plain _ (field_at Truncated total 32) bytes (field_plain total 32 bytes)

hash_plain : (total : ℕ) (bytes : List ℕ) → IsPlain (hash_at Truncated total bytes)
hash_plain total bytes = as_plain _ (field_at Truncated total 32) bytes (field_plain total 32 bytes)

signature_plain : (total : ℕ) (bytes : List ℕ) → IsPlain (signature_at total bytes)
signature_plain total bytes = as_plain _ (field_at Truncated total 64) bytes (field_plain total 64 bytes)

instruction_plain : (total : ℕ) (bytes : List ℕ) → IsPlain (instruction_at total bytes)
unfolding instruction_at
instruction_plain total bytes =
    onward (byte_at Truncated total bytes) _ (byte_plain total bytes) (λ program.
    onward (blob_at total program.1) _ (blob_plain total program.1) (λ accounts.
    onward (blob_at total accounts.1) _ (blob_plain total accounts.1) (λ input. tt)))

lookup_plain : (total : ℕ) (bytes : List ℕ) → IsPlain (lookup_at total bytes)
unfolding lookup_at
lookup_plain total bytes =
    onward (key_at Truncated total bytes) _ (key_plain total bytes) (λ table.
    onward (blob_at total table.1) _ (blob_plain total table.1) (λ writable.
    onward (blob_at total writable.1) _ (blob_plain total writable.1) (λ readonly. tt)))

kind_plain : (total : ℕ) (bytes : List ℕ) → IsPlain (kind_at total bytes)
kind_plain total [] = refl
kind_plain total (byte ∷ rest) = either (nat_lt byte 128) _ _ tt (either (nat_eq byte 128) _ _ tt refl)

lookups_plain : (kind : MessageKind) (total : ℕ) (bytes : List ℕ) → IsPlain (lookups_at kind total bytes)
lookups_plain Legacy total bytes = tt
lookups_plain Zero total bytes = array_plain lookup_at total (lookup_plain total) bytes

message_plain : (total : ℕ) (bytes : List ℕ) → IsPlain (message_at total bytes)
unfolding message_at
message_plain total bytes =
    onward (kind_at total bytes) _ (kind_plain total bytes) (λ kind.
    onward (header_at total kind.1) _ (header_plain total kind.1) (λ header.
    onward (array_at (key_at Truncated) total header.1) _ (array_plain (key_at Truncated) total (key_plain total) header.1) (λ keys.
    onward (hash_at Truncated total keys.1) _ (hash_plain total keys.1) (λ blockhash.
    onward (array_at instruction_at total blockhash.1) _ (array_plain instruction_at total (instruction_plain total) blockhash.1) (λ instructions.
    onward (lookups_at kind.0 total instructions.1) _ (lookups_plain kind.0 total instructions.1) (λ lookups. tt))))))

tx_plain : (total : ℕ) (bytes : List ℕ) → IsPlain (tx_at total bytes)
unfolding tx_at
tx_plain total bytes =
    onward (array_at signature_at total bytes) _ (array_plain signature_at total (signature_plain total) bytes) (λ signatures.
    onward (message_at total signatures.1) _ (message_plain total signatures.1) (λ message. tt))

wire_plain : (bytes : List ℕ) → IsPlain (wire_of bytes)
unfolding wire_of
wire_plain bytes = either (nat_lt max_wire_len (length bytes)) _ _ refl
    (onward (tx_at (length bytes) bytes) _ (tx_plain (length bytes) bytes) (λ tx. either (nat_eq (length tx.1) 0) _ _ tt refl))

-- a refusal is of the bytes
pub refused_by_bytes : (bytes : List ℕ) (fault : WireFault) → wire_of bytes ≡ Err fault → is_wire_memory fault ≡ false
refused_by_bytes bytes fault h = by_case (wire_of bytes) (wire_plain bytes) h
  where
    by_case : (r : Result Tx WireFault) → IsPlain r → r ≡ Err fault → is_wire_memory fault ≡ false
    by_case (Ok tx) plain e = absurd (cc)
    by_case (Err found) plain e = let same : found ≡ fault = cc in subst (λ (f : WireFault). is_wire_memory f ≡ false) same plain
