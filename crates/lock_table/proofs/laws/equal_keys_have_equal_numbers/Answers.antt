use Rattle.lock_table.proofs.Tables.{equal_numbers}
use Rattle.lock_table.proofs.laws.equal_keys_have_equal_numbers.Goals as goal

pub returns : goal.returns
returns c = record { equal = equal_numbers }
