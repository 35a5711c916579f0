use Rattle.std.proofs.Common.{Ok, sym, ap}
use Rattle.json_parts.specs.TransactionJson.{message_in}
use Rattle.json_parts.proofs.transaction_in.message.Goals as goal

pub returns : goal.returns
unfolding message_in
returns c = rw (
  c.in_ok-kind.ensures,
  c.in_ok-header.ensures,
  c.in_ok-key_count.ensures.gives,
  c.in_ok-blockhash.ensures,
  c.in_ok-count.ensures.gives,
  c.in_ok-lookup_count.ensures.gives,
)
    (ap Ok (sym c.in_ok-spelled_message.ensures))
