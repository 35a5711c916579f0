use Rattle.bank_json.specs.SnapshotJson.{data_of_snapshot, snapshot_of_data}
use Rattle.bank_json.proofs.SnapshotLaws.{snapshots_again}
use Rattle.bank_json.proofs.Texts.{comes_back}
use Rattle.bank_json.proofs.laws.snapshots_come_back.Goals as goal

pub returns : goal.returns
returns c = λ bytes text are h. comes_back snapshot_of_data (data_of_snapshot bytes) text bytes h (λ d written. snapshots_again bytes d are written)
