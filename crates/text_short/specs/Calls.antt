-- Instructions from their parts.
use Rattle.std.specs.Prelude.{ℕ, true, false, List}
use Rattle.std.specs.List.{flat_map}
use Rattle.sol_base.specs.declared.key.Key.{Key}
use Rattle.tx_build.specs.declared.draft.AccountMeta.{AccountMeta}
use Rattle.tx_build.specs.declared.draft.KeyedInstruction.{KeyedInstruction}

-- what an instruction asks of an account
abbrev pub signs_and_writes : Key → AccountMeta
signs_and_writes key = record { key = key; signer = true; writable = true }

abbrev pub signs : Key → AccountMeta
signs key = record { key = key; signer = true; writable = false }

abbrev pub writes : Key → AccountMeta
writes key = record { key = key; signer = false; writable = true }

-- fields, one after the other
abbrev pub joined : List (List ℕ) → List ℕ
joined fields = flat_map (λ field. field) fields

-- a call of the program
abbrev pub call : Key → List AccountMeta → List ℕ → KeyedInstruction
call program accounts input = record { program = program; accounts = accounts; input = input }
