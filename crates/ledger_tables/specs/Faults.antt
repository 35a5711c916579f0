-- When a table does not take a row.
use Rattle.std.specs.Prelude.{◌≤◌, ◌^◌}
use Rattle.ledger_tables.specs.declared.fault.TablesFault.{TablesFault}
use Rattle.ledger_tables.specs.declared.fault.TablesFault.TheVariants.{TooLarge, Sql, OutOfMemory}

-- a number is too large from 2^63 on; why SQLite refuses a statement is not said
abbrev pub IsCaused : TablesFault → Type 0
IsCaused (TooLarge number) = 2 ^ 63 ≤ number
IsCaused (Sql error) = Unit {0}
IsCaused OutOfMemory = Unit {0}
