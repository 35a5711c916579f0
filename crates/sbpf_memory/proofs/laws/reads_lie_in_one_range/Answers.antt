use Rattle.sbpf_memory.proofs.InRanges.{one-range, range-reads, reads-in_range}
use Rattle.sbpf_memory.proofs.Reading.{read-nothing, read-refused}
use Rattle.sbpf_memory.proofs.laws.reads_lie_in_one_range.Goals as goal

pub returns-clause-read : goal.returns-clause-read
returns-clause-read c m addr len bytes is_memory some = (reads-in_range m addr len bytes is_memory some, range-reads m addr len bytes is_memory some)

pub returns-clause-one : goal.returns-clause-one
returns-clause-one c = one-range

pub returns-clause-refused : goal.returns-clause-refused
returns-clause-refused c = read-refused

pub returns-clause-nothing : goal.returns-clause-nothing
returns-clause-nothing c = read-nothing
