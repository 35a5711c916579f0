use Rattle.sbpf_machine.proofs.FramePointer.{first_points, ways_point, steps_point, resumed_points}
use Rattle.sbpf_machine.proofs.laws.r10_is_the_end_of_the_active_frame.Goals as goal

pub returns-clause-first : goal.returns-clause-first
returns-clause-first c = first_points

pub returns-clause-going : goal.returns-clause-going
returns-clause-going c = ways_point

pub returns-clause-stopped : goal.returns-clause-stopped
returns-clause-stopped c = steps_point

pub returns-clause-resumed : goal.returns-clause-resumed
returns-clause-resumed c = resumed_points
