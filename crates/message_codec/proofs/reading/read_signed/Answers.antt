use Rattle.std.proofs.Common.{arith, length, sym, ◌∙◌}
use Rattle.message_codec.proofs.WireLaws.{signed_bytes}
use Rattle.message_codec.proofs.reading.read_signed.Goals as goal

pub returns-clause-message : goal.returns-clause-message
returns-clause-message c =
    signed_bytes (length c.args.bytes.now) c.args.bytes.now c.in_ok-signatures.signatures c.in_ok-signatures.signed.now c.in_ok-message.message c.in_ok-message.rest.now
    (λ i. omega (arith, c.type_inv.bytes i)) c.in_ok-signatures.ensures c.in_ok-message.ensures (sym c.is_empty.ensures ∙ c.if-not-is_empty.false)
