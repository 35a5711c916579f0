use Rattle.std.proofs.Common.{arith, subst, sym}
use Rattle.admission.specs.Admission.{AreParsed}
use Rattle.bank_cli.proofs.Wires.{are_parsed, batch_wires_are_bytes}
use Rattle.bank_cli.proofs.ahead.read_decoded.Goals as goal

pub returns : goal.returns
returns g c = record {
  exact = c.in_ok-batch.ensures.exact;
  spelled = c.in_ok-batch.ensures.found;
  parsed =
      subst (AreParsed c.in_ok-batch.batch.wires) (sym c.in_ok-parsed.ensures.parsed)
      (are_parsed _ (batch_wires_are_bytes c.args.bytes.now c.in_ok-batch.batch (λ i. omega (arith, c.type_inv.bytes i)) c.in_ok-batch.ensures.found.spelled));
}
