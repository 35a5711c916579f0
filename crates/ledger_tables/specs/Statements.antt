-- Statements that run on a connection, one after the other.
use Rattle.std.specs.Prelude.{◌≡◌, ◌≤◌, ℕ, List, [], ◌∷◌, ◌++◌, map, Ok}
use Rattle.sqlite_trees.specs.declared.store.Store.{Ghosts}
use Rattle.sqlite_trees.specs.View.{doubt}
use Rattle.sqlite_value.specs.declared.value.Value.{Value}
use Rattle.sqlite.specs.Held.{Held, state}
use Rattle.sqlite.specs.Batch.{ExecutesAll}
use Rattle.sqlite.specs.State.{Executes, HasCleanDisk}
use Rattle.ledger_tables.specs.declared.rows.BlockRows.{BlockRows}
use Rattle.ledger_tables.specs.declared.rows.AccountRow.{AccountRow}
use Rattle.ledger_tables.specs.declared.schema.TheConstants.{INSERT_BLOCK, INSERT_TRANSACTION, INSERT_INSTRUCTION, INSERT_LOG, INSERT_ACCOUNT, BEGIN, COMMIT}
use Rattle.ledger_tables.specs.Columns.{block_columns, transaction_columns, instruction_columns, log_columns, account_columns}

-- a text of SQL, and the values of its parameters
pub record Statement : Type 0 where
  pub sql : List ℕ
  pub values : List Value

abbrev pub plain : List ℕ → Statement
plain sql = record { sql = sql; values = [] }

-- each row of a table goes in by one statement
abbrev pub inserts : {X : Type 0} → List ℕ → (X → List Value) → List X → List Statement
inserts sql columns rows = map (λ row. record { sql = sql; values = columns row }) rows

abbrev pub account_inserts : List AccountRow → List Statement
account_inserts rows = inserts INSERT_ACCOUNT.now account_columns rows

-- all statements of rows of accounts, as one transaction
abbrev pub accounts_statements : List AccountRow → List Statement
accounts_statements rows = plain BEGIN.now ∷ account_inserts rows ++ plain COMMIT.now ∷ []

-- and those of a block
abbrev pub block_inserts : BlockRows → List Statement
block_inserts rows =
    inserts INSERT_BLOCK.now block_columns (rows.block ∷ [])
    ++ inserts INSERT_TRANSACTION.now transaction_columns rows.transactions
    ++ inserts INSERT_INSTRUCTION.now instruction_columns rows.instructions
    ++ inserts INSERT_LOG.now log_columns rows.logs
    ++ account_inserts rows.changed ++ account_inserts rows.gone

abbrev pub block_statements : BlockRows → List Statement
block_statements rows = plain BEGIN.now ∷ block_inserts rows ++ plain COMMIT.now ∷ []

module _ {S : Type 0} (g : Ghosts S) where
  -- the statement ran
  abbrev pub IsRun : Statement → Held S → Held S → Type 0
  IsRun statement old new =
      (count : ℕ)
      × Executes statement.sql statement.values (state g old) (state g new) (Ok count)

  -- the statements ran in turn, and nothing else did
  abbrev pub AreRun : List Statement → Held S → Held S → Type 0
  AreRun [] old new = new ≡ old
  AreRun (statement ∷ statements) old new =
      (mid : Held S) × IsRun statement old mid × AreRun statements mid new

  -- a disk that has not returned what was written stays known as that
  abbrev pub StaysKnown : Held S → Held S → Type 0
  StaysKnown old new = doubt (state g old).is_clean ≤ doubt (state g new).is_clean

  -- what is said of values holds where the disk has returned what was written
  abbrev pub Ran : List Statement → Held S → Held S → Type 0
  Ran statements old new = HasCleanDisk (state g new) → AreRun statements old new

  -- the statements of a text ran in turn
  abbrev pub RanAll : List ℕ → Held S → Held S → Type 0
  RanAll text old new = HasCleanDisk (state g new) → ExecutesAll g text old new (Ok tt)
