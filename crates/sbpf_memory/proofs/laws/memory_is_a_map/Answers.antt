use Rattle.sbpf_memory.proofs.ByAddress.{no-byte-in_gap, read-bytes, read-count, write-bounds, write-bytes, write-keeps, write-memory}
use Rattle.sbpf_memory.proofs.laws.memory_is_a_map.Goals as goal

pub returns-clause-read : goal.returns-clause-read
returns-clause-read c = read-count

pub returns-clause-read_bytes : goal.returns-clause-read_bytes
returns-clause-read_bytes c = read-bytes

pub returns-clause-written : goal.returns-clause-written
returns-clause-written c = write-bytes

pub returns-clause-kept : goal.returns-clause-kept
returns-clause-kept c = write-keeps

pub returns-clause-bounds : goal.returns-clause-bounds
returns-clause-bounds c = write-bounds

pub returns-clause-memory : goal.returns-clause-memory
returns-clause-memory c = write-memory

pub returns-clause-gaps : goal.returns-clause-gaps
returns-clause-gaps c = no-byte-in_gap
