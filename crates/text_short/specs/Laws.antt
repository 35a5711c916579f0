-- What is built is read again, and what the digits of a key mean.
use Rattle.std.specs.Prelude.{◌≡◌, ◌≢◌, ◌≤◌, ℕ, List, [], length, true, Option, Ok, Err}
use Rattle.hex.specs.Hex.{decode_sized}
use Rattle.serde_json.specs.Data.{Data}
use Rattle.sol_base.specs.declared.key.Hash32.{Hash32}
use Rattle.snapshot_codec.specs.declared.batch.Batch.{Batch}
use Rattle.snapshot_codec.specs.BatchReading.{batch_of}
use Rattle.json_parts.specs.declared.fault.Wanted.TheVariants.{DigitCount}
use Rattle.json_parts.specs.declared.fault.JsonFault.TheVariants.{Refused}
use Rattle.json_parts.specs.Parts.{is_digits}
use Rattle.text_short.specs.Names.{named_key}
use Rattle.text_short.specs.ShortForm.{short_batch_in}

-- the bytes are those of a batch, for any block after slot 0
abbrev pub BuiltBatchesAreRead : Type 0
BuiltBatchesAreRead =
    (newest : Option Hash32) (d : Data) (bytes : List ℕ) → short_batch_in newest d ≡ Ok bytes
    → (batch : Batch) × (batch_of 0 bytes ≡ Ok batch)

-- 64 hexadecimal digits are the key
abbrev pub DigitsAreTheKey : Type 0
DigitsAreTheKey =
    (text bytes : List ℕ) → decode_sized text 32 ≡ Ok bytes
    → named_key text ≡ Ok (record { 0 = bytes })

-- another number of digits is no key and no name, from 16 on
abbrev pub MistypedKeysAreRefused : Type 0
MistypedKeysAreRefused =
    (text : List ℕ) → is_digits text ≡ true → 16 ≤ length text → length text ≢ 64
    → named_key text ≡ Err (Refused [] (DigitCount 32 (length text)))
