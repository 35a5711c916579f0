use Rattle.std.proofs.Common.{◌≡◌, ◌≤◌, ◌-◌, min, length, refl, arith}
use Rattle.std.proofs.lemmas.List.{drop_all}
use Rattle.sbpf_memory.specs.Plain.{plain_memory}
use Rattle.sys_calls.specs.declared.access.TheConstants.{PIECE}
use Rattle.sys_calls.specs.Access.{held}
use Rattle.sys_calls.proofs.Differences.{piece-found, piece-passed}
use Rattle.sys_calls.proofs.Pieces.{memory-plain, length-held}
use Rattle.sys_calls.proofs.memory.difference_between.Goals as goal

pub returns-in-Some : goal.returns-in-Some
returns-in-Some c =
    piece-found (held (plain_memory c.args.memory.now) c.args.one c.args.count) (held (plain_memory c.args.memory.now) c.args.other c.args.count) c.read_piece-a.result.now c.read_piece-b.result.now
    c.loop-at.at (min PIECE (c.args.count - c.loop-at.at)) c.in-Some.difference c.read_piece-a.ensures.bytes c.read_piece-b.ensures.bytes c.in-Some.ensures c.loop-at.invariant.same

pub loop-at-preserved : goal.loop-at-preserved
loop-at-preserved c =
    let size : length c.read_piece-a.result.now ≡ min PIECE (c.args.count - c.loop-at.at) = c.read_piece-a.ensures.count in
    record {
      within = omega arith;
      same =
          piece-passed (held (plain_memory c.args.memory.now) c.args.one c.args.count)
          (held (plain_memory c.args.memory.now) c.args.other c.args.count) c.read_piece-a.result.now
          c.read_piece-b.result.now
          c.loop-at.at (length c.read_piece-a.result.now) (rw size c.read_piece-a.ensures.bytes) (rw size c.read_piece-b.ensures.bytes) c.in-None.ensures c.loop-at.invariant.same;
    }

pub returns : goal.returns
returns c =
    let one = held (plain_memory c.args.memory.now) c.args.one c.args.count in
    let other = held (plain_memory c.args.memory.now) c.args.other c.args.count in
    let size : length one ≡ c.args.count = length-held (plain_memory c.args.memory.now) c.args.one c.args.count (memory-plain c.args.memory.now c.is_memory.ensures) c.requires.one in
    let past : length one ≤ c.loop-at.at = omega arith in
    rw (c.loop-at.invariant.same, drop_all c.loop-at.at one past) refl
