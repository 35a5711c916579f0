-- Instructions of the loader program by name (the project's own).
use Rattle.std.specs.Prelude.{ℕ, ◌-◌, ◌^◌, List, [], ◌∷◌, length, codes, bytes_eq, if◌then◌else◌, Ok}
use Rattle.std.specs.Int.{w32, w64, to_le_bytes}
use Rattle.spec_base.specs.Bytes.{max_count}
use Rattle.spec_base.specs.Reading.{◌>>=◌}
use Rattle.serde_json.specs.Data.{Data}
use Rattle.sol_base.specs.declared.key.TheConstants.{LOADER_PROGRAM}
use Rattle.tx_build.specs.declared.draft.KeyedInstruction.{KeyedInstruction}
use Rattle.json_parts.specs.Faults.{Read}
use Rattle.json_parts.specs.Parts.{number_in, data_in, member_in, known_in, one_of}
use Rattle.text_short.specs.Calls.{call, joined, signs_and_writes, signs, writes}
use Rattle.text_short.specs.Members.{text_in, key_in, no_such_instruction}

unfoldable pub init_in : Data → Read KeyedInstruction
init_in d = do
  known ← known_in (codes "loader" ∷ codes "buffer" ∷ codes "authority" ∷ []) d
  buffer ← member_in (codes "buffer") key_in d
  authority ← member_in (codes "authority") key_in d
  Ok (call LOADER_PROGRAM (signs_and_writes buffer ∷ [])
      (joined (to_le_bytes w32 0 ∷ authority.0 ∷ [])))

unfoldable pub write_in : Data → Read KeyedInstruction
write_in d = do
  known ← known_in
      (codes "loader" ∷ codes "buffer" ∷ codes "authority" ∷ codes "offset" ∷ codes "bytes" ∷ []) d
  buffer ← member_in (codes "buffer") key_in d
  authority ← member_in (codes "authority") key_in d
  offset ← member_in (codes "offset") (number_in 0 (2 ^ 32 - 1)) d
  bytes ← member_in (codes "bytes") (data_in max_count) d
  Ok (call LOADER_PROGRAM (writes buffer ∷ signs authority ∷ [])
      (joined (to_le_bytes w32 1 ∷ to_le_bytes w32 offset ∷ to_le_bytes w64 (length bytes) ∷ bytes
      ∷ [])))

unfoldable pub finalize_in : Data → Read KeyedInstruction
finalize_in d = do
  known ← known_in (codes "loader" ∷ codes "buffer" ∷ codes "authority" ∷ []) d
  buffer ← member_in (codes "buffer") key_in d
  authority ← member_in (codes "authority") key_in d
  Ok (call LOADER_PROGRAM (writes buffer ∷ signs authority ∷ []) (joined (to_le_bytes w32 2 ∷ [])))

unfoldable pub set_authority_in : Data → Read KeyedInstruction
set_authority_in d = do
  known ← known_in (codes "loader" ∷ codes "buffer" ∷ codes "authority" ∷ codes "to" ∷ []) d
  buffer ← member_in (codes "buffer") key_in d
  authority ← member_in (codes "authority") key_in d
  to ← member_in (codes "to") key_in d
  Ok (call LOADER_PROGRAM (writes buffer ∷ signs authority ∷ [])
      (joined (to_le_bytes w32 3 ∷ to.0 ∷ [])))

unfoldable pub loader_named : List ℕ → Data → Read KeyedInstruction
loader_named name d =
    if bytes_eq (codes "Init") name then init_in d else
    (if bytes_eq (codes "Write") name then write_in d else
    (if bytes_eq (codes "Finalize") name then finalize_in d else
    (if bytes_eq (codes "SetAuthority") name then set_authority_in d else
    no_such_instruction (codes "loader"))))

-- no others are read
unfoldable pub loader_names : List (List ℕ)
loader_names =
    codes "Init" ∷ codes "Write" ∷ codes "Finalize" ∷ codes "SetAuthority" ∷ []

-- the instruction that the member `loader` names
unfoldable pub loader_in : Data → Read KeyedInstruction
loader_in d = do
  name ← member_in (codes "loader") text_in d
  listed ← one_of (codes "loader") loader_names name
  loader_named name d
