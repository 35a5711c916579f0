use Rattle.bank_json.specs.RecordJson.{data_of_record, record_of_data}
use Rattle.bank_json.proofs.RecordLaws.{records_again}
use Rattle.bank_json.proofs.Texts.{comes_back}
use Rattle.bank_json.proofs.laws.records_come_back.Goals as goal

pub returns : goal.returns
returns c = λ bytes text are h. comes_back record_of_data (data_of_record bytes) text bytes h (λ d written. records_again bytes d are written)
