use Rattle.invoke_engine.proofs.Kept.{calls_by_rules, leaves_by_rules, same_stretch, first_stretch, native_stretch, next_stretch}
use Rattle.invoke_engine.proofs.Foreign.{calls_foreign, leaves_foreign}
use Rattle.invoke_engine.proofs.laws.stretches_keep_the_rules.Goals as goal

pub returns-clause-calls : goal.returns-clause-calls
returns-clause-calls c = calls_by_rules

pub returns-clause-leaves : goal.returns-clause-leaves
returns-clause-leaves c = leaves_by_rules

pub returns-clause-goes_on : goal.returns-clause-goes_on
returns-clause-goes_on c = same_stretch

pub returns-clause-first : goal.returns-clause-first
returns-clause-first c = first_stretch

pub returns-clause-next : goal.returns-clause-next
returns-clause-next c = next_stretch

pub returns-clause-native : goal.returns-clause-native
returns-clause-native c = native_stretch

pub returns-clause-foreign_at_calls : goal.returns-clause-foreign_at_calls
returns-clause-foreign_at_calls c = calls_foreign

pub returns-clause-foreign_at_ends : goal.returns-clause-foreign_at_ends
returns-clause-foreign_at_ends c = leaves_foreign
