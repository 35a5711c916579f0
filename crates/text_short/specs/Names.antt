-- Keys in the short form: in digits, and by name (the project's own).
use Rattle.std.specs.Prelude.{ℕ, List, length, slice_index, codes, bytes_eq, nat_lt, nat_le, not, ◌&&◌, ◌||◌, ◌==◌, Bool, if◌then◌else◌, Option, Some, None, option_map}
use Rattle.std.specs.Option.{option_or}
use Rattle.std.specs.Char.{is_ascii_alphabetic, is_ascii_alphanumeric}
use Rattle.std.specs.List.{list_all}
use Rattle.std.specs.Result.{result_ok}
use Rattle.hex.specs.Hex.{decode_sized}
use Rattle.spec_base.specs.Sha256.{sha256}
use Rattle.sol_base.specs.declared.key.Key.{Key}
use Rattle.sol_base.specs.declared.key.TheConstants.{SYSTEM_PROGRAM, LOADER_PROGRAM, COMPUTE_BUDGET_PROGRAM}
use Rattle.json_parts.specs.declared.fault.Wanted.{Wanted}
use Rattle.json_parts.specs.declared.fault.Wanted.TheVariants.{DigitCount, KeyOrName}
use Rattle.json_parts.specs.Faults.{Read}
use Rattle.json_parts.specs.Parts.{or_refused, is_digits}

-- a letter, a digit, `_`, `-` or `.`
abbrev pub is_name_byte : ℕ → Bool
is_name_byte b = is_ascii_alphanumeric b || (b == 95) || (b == 45) || (b == 46)

-- as many digits alone are a key that was mistyped
abbrev pub is_like_a_key : List ℕ → Bool
is_like_a_key text = nat_le 16 (length text) && is_digits text

-- 1 to 31 of those, a letter first, and nothing that is like a key
abbrev pub is_name : List ℕ → Bool
is_name text =
    list_all is_name_byte text && nat_lt 0 (length text) && nat_le (length text) 31
    && is_ascii_alphabetic (slice_index text 0) && not (is_like_a_key text)

-- the programs that have names of their own
unfoldable pub program_named : List ℕ → Option Key
program_named text =
    if bytes_eq (codes "system") text then Some SYSTEM_PROGRAM else
    (if bytes_eq (codes "loader") text then Some LOADER_PROGRAM else
    (if bytes_eq (codes "budget") text then Some COMPUTE_BUDGET_PROGRAM else None))

-- the key that 64 hexadecimal digits are, in either case
abbrev pub key_of_digits : List ℕ → Option Key
key_of_digits text = option_map (λ bytes. record { 0 = bytes }) (result_ok (decode_sized text 32))

-- a name stands for its SHA-256
abbrev pub key_of_name : List ℕ → Option Key
key_of_name text = if is_name text then Some (record { 0 = sha256 text }) else None

-- what is wanted in place of a text that is none of these
abbrev pub key_wanted : List ℕ → Wanted
key_wanted text = if is_digits text then DigitCount 32 (length text) else KeyOrName

-- the key that a text stands for
unfoldable pub named_key : List ℕ → Read Key
named_key text =
    or_refused
    (option_or (program_named text) (option_or (key_of_digits text) (key_of_name text)))
    (key_wanted text)
