-- Files that end in the SHA-256 of all that stands before it (the project's own).
use Rattle.std.specs.Prelude.{ℕ, ◌-◌, List, ◌++◌, length, take, drop, bytes_eq, Bool, if◌then◌else◌, Result, Ok, Err}
use Rattle.sha2.specs.Sha256.{sha256}
use Rattle.ledger_folder.specs.declared.name.Name.{Name}
use Rattle.ledger_store.specs.declared.fault.LedgerFault.{LedgerFault}
use Rattle.ledger_store.specs.declared.fault.LedgerFault.TheVariants.{Damaged}

abbrev pub sealed : List ℕ → List ℕ
sealed body = body ++ sha256 body

-- where the hash stands
abbrev pub seal_at : List ℕ → ℕ
seal_at bytes = length bytes - 32

abbrev pub is_sealed : List ℕ → Bool
is_sealed bytes = bytes_eq (sha256 (take (seal_at bytes) bytes)) (drop (seal_at bytes) bytes)

-- what stands before the hash
abbrev pub unsealed : List ℕ → List ℕ
unsealed bytes = take (seal_at bytes) bytes

-- what comes before the hash of a file, if that is its hash
unfoldable pub body_of : Name → List ℕ → Result (List ℕ) LedgerFault
body_of name bytes =
    if is_sealed bytes then Ok (unsealed bytes) else Err (Damaged name (seal_at bytes))
