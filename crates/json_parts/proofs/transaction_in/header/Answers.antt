use Rattle.std.proofs.Common.{Ok, sym, ap}
use Rattle.json_parts.specs.TransactionJson.{header_in}
use Rattle.json_parts.proofs.transaction_in.header.Goals as goal

pub returns : goal.returns
unfolding header_in
returns c = rw (c.in_ok-known_of_header.ensures, c.in_ok-required.ensures, c.in_ok-signed.ensures, c.in_ok-unsigned.ensures) (ap Ok (sym c.in_ok-from_slice.ensures))
