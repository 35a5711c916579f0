-- The values that are bound are the columns of a row.
use Rattle.std.proofs.Common.{◌≡◌, ℕ, List, [], ◌∷◌, Option, Some, None, refl, ap}
use Rattle.sqlite_value.specs.declared.value.Value.{Value}
use Rattle.sqlite_value.specs.declared.value.Value.TheVariants.{Text, Blob}
use Rattle.sqlite.specs.Values.{bound_value, or_null}
use Rattle.ledger_tables.specs.Columns.{number, block_columns, transaction_columns, instruction_columns, log_columns, account_columns, flag}
use Rattle.ledger_tables.specs.declared.rows.BlockRow.{BlockRow}
use Rattle.ledger_tables.specs.declared.rows.TransactionRow.{TransactionRow}
use Rattle.ledger_tables.specs.declared.rows.InstructionRow.{InstructionRow}
use Rattle.ledger_tables.specs.declared.rows.LogRow.{LogRow}
use Rattle.ledger_tables.specs.declared.rows.AccountRow.{AccountRow}

-- a text that may not be there
pub bound_or_null : (text : Option (List ℕ)) (value : Value) → value ≡ or_null Text text → bound_value value ≡ or_null Text text
bound_or_null None value is = ap bound_value is
bound_or_null (Some text) value is = ap bound_value is

pub block_values : (row : BlockRow) (slot burned collected micros : Value) (hash previous collector state : List ℕ)
    → slot ≡ number row.slot → hash ≡ row.hash → previous ≡ row.previous → collector ≡ row.collector
    → state ≡ row.state → burned ≡ number row.burned → collected ≡ number row.collected
    → micros ≡ number row.micros
    → bound_value slot ∷ Text hash ∷ Text previous ∷ Text collector ∷ Text state ∷ bound_value burned ∷ bound_value collected ∷ bound_value micros ∷ [] ≡ block_columns row
block_values row slot burned collected micros hash previous collector state a b c d e f g h =
    rw (ap bound_value a, b, c, d, e, ap bound_value f, ap bound_value g, ap bound_value h) refl

pub transaction_values : (row : TransactionRow) (slot position units fee signature payer : Value) (status : List ℕ)
    → slot ≡ number row.slot → position ≡ number row.position → signature ≡ or_null Text row.signature
    → payer ≡ or_null Text row.payer → status ≡ row.status → units ≡ number row.units → fee ≡ number row.fee
    → bound_value slot ∷ bound_value position ∷ bound_value signature ∷ bound_value payer ∷ Text status ∷ bound_value units ∷ bound_value fee ∷ [] ≡ transaction_columns row
transaction_values row slot position units fee signature payer status a b c d e f g =
    rw (ap bound_value a, ap bound_value b, bound_or_null row.signature signature c, bound_or_null row.payer payer d, e, ap bound_value f, ap bound_value g) refl

pub instruction_values : (row : InstructionRow) (slot position place program : Value) (accounts input : List ℕ)
    → slot ≡ number row.slot → position ≡ number row.position → place ≡ number row.place → program ≡ or_null Text row.program → accounts ≡ row.accounts → input ≡ row.input
    → bound_value slot ∷ bound_value position ∷ bound_value place ∷ bound_value program ∷ Text accounts ∷ Blob input ∷ [] ≡ instruction_columns row
instruction_values row slot position place program accounts input a b c d e f =
    rw (ap bound_value a, ap bound_value b, ap bound_value c, bound_or_null row.program program d, e, f) refl

pub log_values : (row : LogRow) (slot position place : Value) (line : List ℕ) → slot ≡ number row.slot → position ≡ number row.position → place ≡ number row.place → line ≡ row.line
    → bound_value slot ∷ bound_value position ∷ bound_value place ∷ Text line ∷ [] ≡ log_columns row
log_values row slot position place line a b c d = rw (ap bound_value a, ap bound_value b, ap bound_value c, d) refl

pub account_values : (row : AccountRow) (slot lamports executable : Value) (key owner bytes : List ℕ)
    → slot ≡ number row.slot → key ≡ row.key → lamports ≡ number row.lamports → owner ≡ row.owner → executable ≡ flag row.executable → bytes ≡ row.bytes
    → bound_value slot ∷ Text key ∷ bound_value lamports ∷ Text owner ∷ bound_value executable ∷ Blob bytes ∷ [] ≡ account_columns row
account_values row slot lamports executable key owner bytes a b c d e f = rw (ap bound_value a, b, ap bound_value c, d, ap bound_value e, f) refl
