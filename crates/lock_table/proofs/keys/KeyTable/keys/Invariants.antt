use Rattle.std.proofs.Common.{◌≡◌, take}
use Rattle.lock_table.specs.Tables.{keys_in}
use Rattle.lock_table.proofs.keys.KeyTable.keys.Given as goal

abbrev pub invariant-loop-key : goal.invariant-loop-key
invariant-loop-key l = l.keys.items ≡ keys_in (take l.key-index l.numbered)
