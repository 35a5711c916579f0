use Rattle.std.proofs.lemmas.List.{take_rest}
use Rattle.loader_prog.specs.Buffers.{image_at}
use Rattle.loader_prog.proofs.buffer.image_of.Goals as goal

pub returns : goal.returns
returns c = take_rest c.args.bytes.now image_at
