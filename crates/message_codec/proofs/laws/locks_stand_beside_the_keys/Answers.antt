use Rattle.message_codec.proofs.RoleLaws.{keys_of_locks, lock_count, lock_each}
use Rattle.message_codec.proofs.laws.locks_stand_beside_the_keys.Goals as goal

pub returns-clause-keys : goal.returns-clause-keys
returns-clause-keys c = keys_of_locks

pub returns-clause-count : goal.returns-clause-count
returns-clause-count c = lock_count

pub returns-clause-each : goal.returns-clause-each
returns-clause-each c = lock_each
