use Rattle.std.proofs.Common.{arith}
use Rattle.bank_json.specs.SnapshotJson.{data_of_snapshot, snapshot_of_data}
use Rattle.bank_json.proofs.SnapshotLaws.{snapshots_again}
use Rattle.json_shown.proofs.ExactTexts.{exact_comes}
use Rattle.json_shown.proofs.text.json_of_snapshot_with_shown.Goals as goal

pub returns-clause-comes_back : goal.returns-clause-comes_back
returns-clause-comes_back c = exact_comes snapshot_of_data (data_of_snapshot c.args.bytes.now) c.args.bytes.now
    (λ d written. snapshots_again c.args.bytes.now d (λ i. omega (arith, c.type_inv.bytes i)) written)
    c.json_of_snapshot.result c.json_of_snapshot.ensures
