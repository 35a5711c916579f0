use Rattle.std.proofs.Common.{[], ◌∷◌}
use Rattle.ledger_tables.specs.declared.schema.TheConstants.{BEGIN, COMMIT}
use Rattle.ledger_tables.specs.Statements.{account_inserts, plain}
use Rattle.ledger_tables.proofs.Runs.{ran_then}
use Rattle.ledger_tables.proofs.tables.add_accounts.Goals as goal

pub returns-clause-ran : goal.returns-clause-ran
returns-clause-ran g c =
    let rows = account_inserts c.args.rows.now in
    let begun = ran_then g.S.Store (plain BEGIN.now ∷ []) rows c.args.conn.now c.run.new.conn
    c.insert_accounts.new.conn c.insert_accounts.ensures.known c.in_ok-run.ensures.ran
    c.in_ok-insert_accounts.ensures.ran in
    ran_then g.S.Store (plain BEGIN.now ∷ rows) (plain COMMIT.now ∷ []) c.args.conn.now c.insert_accounts.new.conn c.run-2.new.conn c.run-2.ensures.known begun c.in_ok-run-2.ensures.ran
