use Rattle.std.proofs.Common.{List, [], ◌∷◌, OnOk, subst}
use Rattle.sqlite_value.specs.declared.value.Value.{Value}
use Rattle.ledger_tables.specs.declared.schema.TheConstants.{INSERT_ACCOUNT}
use Rattle.ledger_tables.specs.Statements.{Ran}
use Rattle.ledger_tables.proofs.ColumnLemmas.{account_values}
use Rattle.ledger_tables.proofs.inserts.insert_account.Goals as goal

pub returns-clause-ran : goal.returns-clause-ran
returns-clause-ran g c =
    let P : List Value → Type 0 = λ values. OnOk c.run.result (Ran g.S.Store (record { sql = INSERT_ACCOUNT.now; values = values } ∷ []) c.args.conn.now c.run.new.conn) in
    subst P (account_values c.args.row.now _ _ _ _ _ _ c.in_ok-number.ensures.ok c.as_slice.ensures
    c.in_ok-number-2.ensures.ok c.as_slice-2.ensures c.flag.ensures c.as_slice-3.ensures) c.run.ensures.ran
