use Rattle.std.proofs.Common.{[], ◌∷◌, ◌++◌}
use Rattle.ledger_tables.specs.declared.schema.TheConstants.{INSERT_BLOCK, INSERT_TRANSACTION, INSERT_INSTRUCTION, INSERT_LOG, INSERT_ACCOUNT}
use Rattle.ledger_tables.specs.Columns.{block_columns, transaction_columns, instruction_columns, log_columns, account_columns}
use Rattle.ledger_tables.specs.Statements.{inserts}
use Rattle.ledger_tables.proofs.Runs.{ran_same, ran_then}
use Rattle.ledger_tables.proofs.tables.insert_rows.Goals as goal

pub returns-clause-ran : goal.returns-clause-ran
returns-clause-ran g c =
    let s = g.S.Store in
    let rows = c.args.rows.now in
    let first = c.args.conn.now in
    let block = inserts INSERT_BLOCK.now block_columns (rows.block ∷ []) in
    let transactions = inserts INSERT_TRANSACTION.now transaction_columns rows.transactions in
    let instructions = inserts INSERT_INSTRUCTION.now instruction_columns rows.instructions in
    let logs = inserts INSERT_LOG.now log_columns rows.logs in
    let changed = inserts INSERT_ACCOUNT.now account_columns rows.changed in
    let gone = inserts INSERT_ACCOUNT.now account_columns rows.gone in
    let two = ran_then s block transactions first c.insert_block.new.conn c.insert_transactions.new.conn c.insert_transactions.ensures.known c.in_ok-insert_block.ensures.ran
    (ran_same s INSERT_TRANSACTION.now transaction_columns c.as_slice.result.now rows.transactions
    c.insert_block.new.conn c.insert_transactions.new.conn c.as_slice.ensures
    c.in_ok-insert_transactions.ensures.ran) in
    let three = ran_then s (block ++ transactions) instructions first c.insert_transactions.new.conn c.insert_instructions.new.conn c.insert_instructions.ensures.known two
    (ran_same s INSERT_INSTRUCTION.now instruction_columns c.as_slice-2.result.now rows.instructions
    c.insert_transactions.new.conn c.insert_instructions.new.conn c.as_slice-2.ensures
    c.in_ok-insert_instructions.ensures.ran) in
    let four = ran_then s (block ++ transactions ++ instructions) logs first c.insert_instructions.new.conn c.insert_logs.new.conn c.insert_logs.ensures.known three
    (ran_same s INSERT_LOG.now log_columns c.as_slice-3.result.now rows.logs c.insert_instructions.new.conn c.insert_logs.new.conn c.as_slice-3.ensures c.in_ok-insert_logs.ensures.ran) in
    let five = ran_then s (block ++ transactions ++ instructions ++ logs) changed first c.insert_logs.new.conn c.insert_accounts.new.conn c.insert_accounts.ensures.known four
    (ran_same s INSERT_ACCOUNT.now account_columns c.as_slice-4.result.now rows.changed c.insert_logs.new.conn c.insert_accounts.new.conn c.as_slice-4.ensures c.in_ok-insert_accounts.ensures.ran) in
    ran_then s (block ++ transactions ++ instructions ++ logs ++ changed) gone first c.insert_accounts.new.conn c.insert_accounts-2.new.conn c.insert_accounts-2.ensures.known five
    (ran_same s INSERT_ACCOUNT.now account_columns c.as_slice-5.result.now rows.gone c.insert_accounts.new.conn c.insert_accounts-2.new.conn c.as_slice-5.ensures c.in_ok-insert_accounts-2.ensures.ran)
