-- The columns of each table, in the order of the schema (the project's own).
use Rattle.std.specs.Prelude.{ℕ, pos, Bool, List, [], ◌∷◌, if◌then◌else◌}
use Rattle.sqlite_value.specs.declared.value.Value.{Value}
use Rattle.sqlite_value.specs.declared.value.Value.TheVariants.{Int, Text, Blob}
use Rattle.sqlite.specs.Values.{or_null}
use Rattle.ledger_tables.specs.declared.rows.BlockRow.{BlockRow}
use Rattle.ledger_tables.specs.declared.rows.TransactionRow.{TransactionRow}
use Rattle.ledger_tables.specs.declared.rows.InstructionRow.{InstructionRow}
use Rattle.ledger_tables.specs.declared.rows.LogRow.{LogRow}
use Rattle.ledger_tables.specs.declared.rows.AccountRow.{AccountRow}

abbrev pub number : ℕ → Value
number n = Int (pos n)

abbrev pub flag : Bool → Value
flag b = Int (if b then pos 1 else pos 0)

abbrev pub block_columns : BlockRow → List Value
block_columns row =
    number row.slot ∷ Text row.hash ∷ Text row.previous ∷ Text row.collector ∷ Text row.state ∷
    number row.burned ∷ number row.collected ∷ number row.micros ∷ []

abbrev pub transaction_columns : TransactionRow → List Value
transaction_columns row =
    number row.slot ∷ number row.position ∷ or_null Text row.signature ∷ or_null Text row.payer ∷
    Text row.status ∷ number row.units ∷ number row.fee ∷ []

abbrev pub instruction_columns : InstructionRow → List Value
instruction_columns row =
    number row.slot ∷ number row.position ∷ number row.place ∷ or_null Text row.program ∷
    Text row.accounts ∷ Blob row.input ∷ []

abbrev pub log_columns : LogRow → List Value
log_columns row = number row.slot ∷ number row.position ∷ number row.place ∷ Text row.line ∷ []

abbrev pub account_columns : AccountRow → List Value
account_columns row =
    number row.slot ∷ Text row.key ∷ number row.lamports ∷ Text row.owner ∷ flag row.executable ∷
    Blob row.bytes ∷ []
