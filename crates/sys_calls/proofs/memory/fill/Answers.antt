use Rattle.std.proofs.Common.{◌≡◌, ◌≤◌, ◌<◌, ◌+◌, ◌-◌, ◌^◌, min, replicate, take, arith}
use Rattle.std.proofs.lemmas.List.{take-replicate}
use Rattle.sbpf_memory.proofs.Writing.{write-nothing}
use Rattle.sys_calls.specs.declared.access.TheConstants.{PIECE}
use Rattle.sys_calls.proofs.Fills.{fill-more, fill-low}
use Rattle.sys_calls.proofs.memory.fill.Goals as goal

pub loop-at-init : goal.loop-at-init
loop-at-init c = record { within = omega arith; filled = write-nothing c.args.memory.now c.args.to }

pub overflow_add-to : goal.overflow_add-to
overflow_add-to c =
    let low : c.args.to + c.args.count < 2 ^ 35 = fill-low c.args.memory.now c.args.to c.args.count c.is_memory.ensures (omega arith) c.requires.free in
    omega arith

pub loop-at-preserved : goal.loop-at-preserved
loop-at-preserved c =
    let len : c.min-len.result ≡ min (c.args.count - c.loop-at.at) PIECE = c.min-len.ensures in
    let short : c.min-len.result ≤ PIECE = omega (arith, len) in
    let piece : take c.min-len.result (replicate PIECE c.args.byte) ≡ replicate c.min-len.result c.args.byte = take-replicate c.min-len.result PIECE c.args.byte short in
    record {
      within = omega arith;
      filled = fill-more c.args.memory.now c.loop-at.memory c.write.new.self c.args.to c.loop-at.at
          c.min-len.result c.args.count c.args.byte c.write.result c.is_memory.ensures c.requires.free
          c.requires.ready (omega arith) (omega arith)
          c.loop-at.invariant.filled (rw piece at c.write.ensures.answer) (rw piece at c.write.ensures.ready);
    }

pub returns : goal.returns
returns c = let all : c.loop-at.at ≡ c.args.count = omega arith in rw (← all) c.loop-at.invariant.filled
