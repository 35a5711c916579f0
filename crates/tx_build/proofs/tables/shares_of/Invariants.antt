use Rattle.std.proofs.Common.{◌≡◌, ◌++◌, drop}
use Rattle.tx_build.specs.Tables.{loaded_mentions, shares_of}
use Rattle.tx_build.proofs.tables.shares_of.Given as goal

-- what is loaded so far, and from the tables that are left
abbrev pub invariant-loop-table : goal.invariant-loop-table
invariant-loop-table l = l.shares ++ shares_of (drop l.table-index l.tables) l.rest.items ≡ shares_of l.tables (loaded_mentions l.tables l.mentions)
