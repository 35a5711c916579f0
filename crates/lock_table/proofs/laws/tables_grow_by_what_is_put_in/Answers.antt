use Rattle.lock_table.proofs.Tables.{keys_stay, stay_distinct, tables_grow}
use Rattle.lock_table.proofs.laws.tables_grow_by_what_is_put_in.Goals as goal

pub returns-clause-keys : goal.returns-clause-keys
returns-clause-keys c = keys_stay

pub returns-clause-distinct : goal.returns-clause-distinct
returns-clause-distinct c = stay_distinct

pub returns-clause-most : goal.returns-clause-most
returns-clause-most c = tables_grow
