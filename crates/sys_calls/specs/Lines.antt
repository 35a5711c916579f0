-- The log lines of the calls that write one (Solana; that a key is hexadecimal digits is the
-- project's own).
use Rattle.std.specs.Prelude.{ℕ, false, List, ◌++◌, codes, decimal, Result, Ok}
use Rattle.std.specs.List.{flat_map}
use Rattle.std.specs.Fmt.{digits}
use Rattle.std.specs.Str.{is_utf8}
use Rattle.hex.specs.Hex.{encode_lower}
use Rattle.spec_base.specs.Reading.{◌>>=◌, ok_if}
use Rattle.sbpf_memory.specs.Memory.{Ranges}
use Rattle.sys_calls.specs.declared.fault.SysFault.{SysFault}
use Rattle.sys_calls.specs.declared.fault.SysFault.TheVariants.{BadText}
use Rattle.sys_calls.specs.Access.{bytes_read}

-- what stands before what a program logs
abbrev pub program_log : List ℕ
program_log = codes "Program log: "

-- the line of a text
unfoldable pub log_line : Ranges → ℕ → ℕ → Result (List ℕ) SysFault
log_line m text len = do
  bytes ← bytes_read m text len
  ok_if (is_utf8 bytes) BadText (program_log ++ bytes)

-- a number in lower case hexadecimal digits without leading zeros
abbrev pub number_text : ℕ → List ℕ
number_text number = codes "0x" ++ digits 16 false number

-- the line of numbers, of which there is at least one
abbrev pub log_64_line : ℕ → List ℕ → List ℕ
log_64_line first others =
    (program_log ++ number_text first)
    ++ flat_map (λ number. codes ", " ++ number_text number) others

-- the line of a key
unfoldable pub log_key_line : Ranges → ℕ → Result (List ℕ) SysFault
log_key_line m key = do
  bytes ← bytes_read m key 32
  Ok (program_log ++ encode_lower bytes)

-- the line of the units then left
abbrev pub log_units_line : ℕ → List ℕ
log_units_line units = codes "Program consumption: " ++ decimal units ++ codes " units remaining"
