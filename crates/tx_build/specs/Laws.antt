-- What is built is read again.
use Rattle.std.specs.Prelude.{◌≡◌, ℕ, List, All, Ok}
use Rattle.sol_base.specs.Keys.{IsKey, IsHash}
use Rattle.message_codec.specs.declared.message.Tx.{Tx}
use Rattle.message_codec.specs.WireReading.{wire_of}
use Rattle.tx_build.specs.declared.draft.Draft.{Draft}
use Rattle.tx_build.specs.Built.{tables_of, built}

-- what the types of the fields say of every value
pub record HasDraftWidths (draft : Draft) : Type 0 where
  pub payer : IsKey draft.payer
  pub blockhash : IsHash draft.blockhash
  pub programs : All (λ instruction. IsKey instruction.program) draft.instructions
  pub accounts : All (λ instruction. All (λ account. IsKey account.key) instruction.accounts) draft.instructions
  pub tables : All (λ table. IsKey table.key) (tables_of draft.version)

-- the bytes are those of a transaction
abbrev pub BuiltWiresAreRead : Type 0
BuiltWiresAreRead =
    (draft : Draft) (bytes : List ℕ) → HasDraftWidths draft → built draft ≡ Ok bytes
    → (tx : Tx) × (wire_of bytes ≡ Ok tx)
