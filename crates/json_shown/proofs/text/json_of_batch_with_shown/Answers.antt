use Rattle.std.proofs.Common.{arith}
use Rattle.bank_json.specs.BatchJson.{data_of_batch, batch_of_data}
use Rattle.bank_json.proofs.BatchLaws.{batches_again}
use Rattle.json_shown.proofs.ExactTexts.{exact_comes}
use Rattle.json_shown.proofs.text.json_of_batch_with_shown.Goals as goal

pub returns-clause-comes_back : goal.returns-clause-comes_back
returns-clause-comes_back c = exact_comes batch_of_data (data_of_batch c.args.bytes.now) c.args.bytes.now
    (λ d written. batches_again c.args.bytes.now d (λ i. omega (arith, c.type_inv.bytes i)) written)
    c.json_of_batch.result c.json_of_batch.ensures
