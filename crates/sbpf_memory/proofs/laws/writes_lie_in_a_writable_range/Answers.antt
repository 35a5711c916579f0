use Rattle.sbpf_memory.proofs.Writing.{refusal-from_write, write_to-refused, write-nothing, write-refused}
use Rattle.sbpf_memory.proofs.InRanges.{range-writes, writes-in_range}
use Rattle.sbpf_memory.proofs.laws.writes_lie_in_a_writable_range.Goals as goal

pub returns-clause-written : goal.returns-clause-written
returns-clause-written c m addr bytes is_memory some = (writes-in_range m addr bytes is_memory some, range-writes m addr bytes is_memory some)

pub returns-clause-refused : goal.returns-clause-refused
returns-clause-refused c = write-refused

pub returns-clause-told : goal.returns-clause-told
returns-clause-told c m addr bytes v = (write_to-refused m addr bytes v, refusal-from_write m addr bytes v)

pub returns-clause-nothing : goal.returns-clause-nothing
returns-clause-nothing c = write-nothing
