use Rattle.std.proofs.Common.{◌*◌, drop, length}
use Rattle.std.proofs.Math.Nat.{min_comm}
use Rattle.std.proofs.lemmas.List.{take_min, take_rest}
use Rattle.sbpf_asm.proofs.lister.chunk.Goals as goal

pub returns : goal.returns
returns c =
    let bytes = c.args.bytes.now in
    let from = c.args.line * 32 in
    rw (c.min.ensures, take_rest bytes from, min_comm (length (drop from bytes)) 32) (take_min 32 (drop from bytes))
