use Rattle.std.proofs.Common.{arith}
use Rattle.message_codec.proofs.WireLaws.{wire_takes, named}
use Rattle.message_codec.proofs.parsed.parse.Goals as goal

pub returns-in-Ok-clause-meaning : goal.returns-in-Ok-clause-meaning
returns-in-Ok-clause-meaning c = (
  wire_takes c.args.wire.now c.in-Ok.tx (λ i. omega (arith, c.type_inv.wire i)) c.in-Ok.ensures.gives,
  named c.hash.result c.in-Ok.tx.message c.in-Ok.message.now c.hash.ensures c.in-Ok.ensures.message,
)
