use Rattle.sbpf_machine.proofs.Landing.{never_stuck, ways_stand}
use Rattle.sbpf_machine.proofs.laws.verified_texts_never_leave_their_rows.Goals as goal

pub returns-clause-starts : goal.returns-clause-starts
returns-clause-starts c = ways_stand

pub returns-clause-rows : goal.returns-clause-rows
returns-clause-rows c = never_stuck
