use Rattle.std.proofs.Common.{◌≡◌, ◌<◌, ◌+◌, ◌-◌, ◌^◌, min, length, take, IsOk, arith}
use Rattle.std.proofs.lemmas.Grind.{common_steps}
use Rattle.sbpf_memory.specs.Memory.{read_from}
use Rattle.sys_calls.specs.declared.access.TheConstants.{PIECE}
use Rattle.sbpf_memory.proofs.Plain.{read-plain}
use Rattle.sys_calls.proofs.Pieces.{part, given, held-plain}
use Rattle.sys_calls.proofs.access.read_piece.Goals as goal

pub overflow_add-addr : goal.overflow_add-addr
overflow_add-addr c =
    let ok : IsOk (read_from c.args.memory.now c.args.addr c.args.len) = rw (read-plain c.args.memory.now c.args.addr c.args.len) at c.requires.readable in
    let p = part c.args.memory.now c.args.addr c.args.len c.args.at 1 c.is_memory.ensures ok (omega arith) (omega (arith, c.requires.place)) in
    let small : c.args.addr + c.args.len < 2 ^ 35 = p.small in
    let below : c.args.at < c.args.len = c.requires.place in
    omega arith

pub returns-clause-bytes : goal.returns-clause-bytes
returns-clause-bytes c =
    let ok : IsOk (read_from c.args.memory.now c.args.addr c.args.len) = rw (read-plain c.args.memory.now c.args.addr c.args.len) at c.requires.readable in
    let p = part c.args.memory.now c.args.addr c.args.len c.args.at (min PIECE (c.args.len - c.args.at)) c.is_memory.ensures ok (omega (arith, c.requires.place)) (omega (arith, c.requires.place)) in
    let size : length (take c.min-count.result c.args.buffer.now) ≡ min PIECE (c.args.len - c.args.at) = grind (arith, common_steps) in
    rw (held-plain c.args.memory.now c.args.addr c.args.len) (given c.read.result _ _ _ _ c.read.ensures (rw size p.bytes))
