use Rattle.std.proofs.Common.{ap, List}
use Rattle.sol_base.specs.Keys.{has_key}
use Rattle.invoke_engine.specs.Frames.{Running}
use Rattle.invoke_engine.specs.Suspended.{programs_of}
use Rattle.invoke_engine.proofs.Stacks.{has_reversed}
use Rattle.invoke_engine.proofs.frame.Stack.has.Goals as goal

pub returns : goal.returns
returns c =
    cc (has_reversed c.args.program.now c.self.inside.frames.items, ap (λ (fs : List Running). has_key c.args.program.now (programs_of fs)) c.self.view_is)
